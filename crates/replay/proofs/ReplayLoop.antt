-- The loop that makes the calls of a list.
use Prim.Native.Nat.{ℕ, suc, ◌+◌, ◌*◌, ◌-◌, ◌≤◌, ◌<◌}
use mathlib.Core.Bool.{Bool, false}
use mathlib.Core.List.{List, [], ◌∷◌, ◌++◌, map, flat_map, append_assoc, append-nil, map-append}
use mathlib.Core.Path.{◌≡◌, refl, sym, ap, ◌∙◌, subst}
use native.Mathlib.Omega.{arith}
use native.Mathlib.Numerals.{add-one}
use lib.ListN.{length, take, drop, length-append}
use lib.Seq.{take_at, drop_at, drop-drop}
use Rattle.tree.specs.Lists.{All}
use Rattle.tree.proofs.Lists.{all_append}
use Rattle.answers.specs.declared.reply.Reply.{Reply}
use Rattle.answers.specs.Numbers.{with_seven}
use Rattle.history.specs.Calls.{Performed, Linked}
use Rattle.history.specs.Contract.{ByContract}
use Rattle.history.proofs.History.{kept_history}
use Rattle.replay.specs.Coded.{coded_at, call_of, calls_in, call_fits, Fits, part_for, part_back}
use Rattle.replay.specs.Replies.{reply_numbers, put_reply}
use Rattle.replay.specs.Replay.{MadeOne, Lends, answer_numbers, Replayed}
use Rattle.replay.proofs.ReplyReturns.{reply_between}

-- one call more at the end
linked_more : (ds : List Performed) (d : Performed) (m m₁ m' : List ℕ) → Linked m ds m₁ → d.before ≡ m₁ → m' ≡ d.after → Linked m (ds ++ (d ∷ [])) m'
unfolding Linked
linked_more [] d m m₁ m' l e f = (e ∙ l, f)
linked_more (c ∷ ds) d m m₁ m' l e f = (l.0, linked_more ds d c.after m₁ m' l.1 e f)

lends_more : (l : List ℕ) (ds : List Performed) (d : Performed) (i j : ℕ) (p p₁ p' : List ℕ) → Lends l i p ds p₁ → j ≡ i + length ds → d.lent ≡ part_for l j p₁ → p' ≡ part_back l j p₁ d.at_exit
    → Lends l i p (ds ++ (d ∷ [])) p'
unfolding Lends
lends_more l [] d i j p p₁ p' g n e f =
    let q : j ≡ i = omega arith in
    (e ∙ rw (q, g), f ∙ rw (q, g))
lends_more l (c ∷ ds) d i j p p₁ p' g n e f = (g.0, lends_more l ds d (suc i) j (part_back l i p c.at_exit) p₁ p' g.1 (omega arith) e f)

flat_more : {A B : Type 0} (f : A → List B) (l : List A) (a : A) → flat_map f (l ++ (a ∷ [])) ≡ flat_map f l ++ f a
unfolding flat_map
flat_more f [] a = append-nil (f a)
flat_more f (b ∷ l) a = ap (λ x. f b ++ x) (flat_more f l a) ∙ sym (append_assoc (f b) (flat_map f l) (f a))

flat_length : (ds : List Performed) → length (flat_map answer_numbers ds) ≡ 8 * length ds
unfolding with_seven reply_numbers flat_map
flat_length [] = refl
flat_length (d ∷ ds) = let e = flat_length ds in let f = length-append (answer_numbers d) (flat_map answer_numbers ds) in omega arith

-- The first i calls were made.
pub record Replaying (l m₀ p₀ a₀ : List ℕ) (m p a : List ℕ) (i : ℕ) : Type 0 where
  pub made : List Performed
  pub count : length made ≡ i
  pub calls : map (λ d. d.call) made ≡ calls_in l i
  pub linked : Linked m₀ made m
  pub lends : Lends l 0 p₀ made p
  pub answers : a ≡ flat_map answer_numbers made ++ drop (8 * i) a₀
  pub kept : All ByContract made
  pub few : 7 * i ≤ length l
  pub memory_length : length m ≡ length m₀
  pub list_length : length p ≡ length p₀
  pub answers_length : length a ≡ length a₀

pub replay_start : (l m p a : List ℕ) → Replaying l m p a m p a 0
unfolding Linked Lends calls_in All flat_map
replay_start l m p a = record {
  made = [];
  count = refl;
  calls = refl;
  linked = refl;
  lends = refl;
  answers = refl;
  kept = tt;
  few = omega arith;
  memory_length = refl;
  list_length = refl;
  answers_length = refl;
}

module _ (l m₀ p₀ a₀ m p a : List ℕ) (i : ℕ) (v : Replaying l m₀ p₀ a₀ m p a i) where
  -- the answers with one more behind them
  answers_more : (t : Reply) → 8 * i + 8 ≤ length a → put_reply a i (with_seven t) ≡ flat_map answer_numbers v.made ++ reply_numbers (with_seven t) ++ drop (8 * (i + 1)) a₀
  answers_more u h =
      let x = flat_map answer_numbers v.made in
      let n : length x ≡ 8 * i = (let e = flat_length v.made in let f = v.count in omega arith) in
      let t : take (8 * i) a ≡ x = ap (take (8 * i)) v.answers ∙ take_at x (drop (8 * i) a₀) (8 * i) n in
      let j : 8 * i + 8 ≡ 8 * (i + 1) = omega arith in
      let d : drop (8 * i + 8) a ≡ drop (8 * (i + 1)) a₀ =
      sym (drop-drop 8 (8 * i) a) ∙ ap (λ y. drop 8 (drop (8 * i) y)) v.answers ∙ ap (drop 8) (drop_at x (drop (8 * i) a₀) (8 * i) n) ∙ drop-drop 8 (8 * i) a₀
      ∙ ap (λ (k : ℕ). drop k a₀) j in
      reply_between a i u h ∙ rw (t, d) (sym (append_assoc x (reply_numbers (with_seven u)) (drop (8 * (i + 1)) a₀)))

  -- one more call
  pub replay_again : (m' p' a' : List ℕ) → Fits l i (length p) (length a) → MadeOne l i m p a m' p' a' → Replaying l m₀ p₀ a₀ m' p' a' (i + 1)
  unfolding calls_in All
  replay_again m' p' a' f n =
      let d : Performed = record { call = call_of (coded_at l i); before = m; after = m'; lent = part_for l i p; at_exit = n.at_exit; reply = n.reply } in
      record {
        made = v.made ++ (d ∷ []);
        count = length-append v.made (d ∷ []) ∙ ap (λ (j : ℕ). j + 1) v.count;
        calls = map-append (λ (x : Performed). x.call) v.made (d ∷ []) ∙ rw (add-one i, v.calls);
        linked = linked_more v.made d m₀ m m' v.linked refl refl;
        lends = lends_more l v.made d 0 i p₀ p p' v.lends (let e = v.count in omega arith) refl n.list;
        answers = n.answers ∙ answers_more n.reply f.room ∙ ap (λ (x : List ℕ). x ++ drop (8 * (i + 1)) a₀) (sym (flat_more answer_numbers v.made d));
        kept = all_append ByContract v.made (d ∷ []) v.kept (n.kept, tt);
        few = let e = f.there in omega arith;
        memory_length = n.memory_length ∙ v.memory_length;
        list_length = n.list_length ∙ v.list_length;
        answers_length = n.answers_length ∙ v.answers_length;
      }

  -- fewer are left
  pub replay_less : Fits l i (length p) (length a) → length l - (i + 1) < length l - i
  replay_less f = let e = f.there in omega arith

  -- no call more
  pub replay_end : (b : Bool) → b ≡ call_fits l i (length p) (length a) → b ≡ false → Replayed l m₀ p₀ a₀ i m p a
  replay_end b e f = record {
    made = v.made;
    count = v.count;
    calls = v.calls;
    linked = v.linked;
    lends = v.lends;
    answers = v.answers;
    kept = v.kept;
    ends = rw (← v.list_length, ← v.answers_length) (sym e ∙ f);
    claim = λ N h k q. kept_history N h k v.made m v.kept (subst (λ (x : List ℕ). Linked x v.made m) q v.linked);
  }
