-- Replies: where their numbers are stored.
use Prim.Native.Nat.{ℕ, suc, ◌+◌, ◌*◌, ◌-◌, ◌≤◌}
use mathlib.Core.List.{List, ◌++◌, append_assoc}
use mathlib.Core.Path.{◌≡◌, sym, ◌∙◌}
use native.Mathlib.Omega.{arith}
use native.Mathlib.Numerals.{add-one}
use lib.ListN.{length, set, take, drop, length-set}
use lib.Seq.{length-sets, sets-eq, drop-drop}
use Rattle.answers.specs.Numbers.{with_seven}
use Rattle.answers.specs.declared.reply.Reply.{Reply}
use Rattle.replay.specs.Replies.{reply_numbers, put_reply}

-- its number stored, and its values behind it
pub stored_reply : (a : List ℕ) (i n : ℕ) (values : List ℕ) (r : Reply) → n ≡ r.number → values ≡ r.values → length r.values ≡ 7 → 8 * i + 8 ≤ length a
    → take (8 * i + 1) (set a (8 * i) n) ++ (values ++ drop (8 * i + 8 - (8 * i + 1)) (drop (8 * i + 1) (set a (8 * i) n))) ≡ put_reply a i r
unfolding put_reply reply_numbers
stored_reply a i n values r e f h g =
    let b = set a (8 * i) r.number in
    let l : suc (8 * i) + length r.values ≤ length b = rw (length-set, h) (omega arith) in
    let k : 8 * i + 8 - (8 * i + 1) ≡ length r.values = rw h (omega arith) in
    rw (e, f, k, add-one (8 * i), drop-drop) (sym (sets-eq r.values b (suc (8 * i)) l ∙ append_assoc (take (suc (8 * i)) b) r.values (drop (suc (8 * i) + length r.values) b)))

-- a stored reply keeps the length
pub length_reply : (l : List ℕ) (i : ℕ) (r : Reply) → length (put_reply l i r) ≡ length l
unfolding put_reply
length_reply l i r = length-sets l (8 * i) (reply_numbers r)

-- and stands between what was before it and what is behind it
pub reply_between : (l : List ℕ) (i : ℕ) (t : Reply) → 8 * i + 8 ≤ length l
    → put_reply l i (with_seven t) ≡ take (8 * i) l ++ (reply_numbers (with_seven t) ++ drop (8 * i + 8) l)
unfolding with_seven put_reply reply_numbers
reply_between l i t h =
    let v = reply_numbers (with_seven t) in
    sets-eq v l (8 * i) h ∙ append_assoc (take (8 * i) l) v (drop (8 * i + 8) l)
