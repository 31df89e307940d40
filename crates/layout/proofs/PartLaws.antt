-- A node's part: the tests of its counts and of its unused numbers, as the code takes them.
use mathlib.Core.Path.{◌≡◌, refl, sym, ap, ◌∙◌}
use mathlib.Core.Bool.{Bool, true, false, ◌&&◌, ◌||◌, and-true, and_assoc}
use mathlib.Core.List.{List, [], ◌∷◌, ◌++◌, map}
use Prim.Native.Nat.{ℕ, zero, suc, ◌+◌, ◌*◌, ◌-◌, ◌≤◌}
use native.Mathlib.Omega.{arith}
use native.Mathlib.Nat.{mul-le-mul}
use native.Mathlib.Numerals.{add-one}
use borrow.Author.Tests.{leb-true}
use lib.Dec.{leb, eqb}
use lib.ListN.{length, take, drop, take-append-drop}
use lib.Seq.{drop-drop}
use Rattle.polygons.proofs.Booleans.{all4}
use Rattle.plane.specs.Fanout.{fanout}
use Rattle.std.specs.List.{list_all, range_with_len}
use Rattle.std.proofs.lemmas.List.Folds.{list_all-append, list_all-map}
use Rattle.std.proofs.lemmas.List.FromFn.{map-range_with_len_more}
use Rattle.memory.specs.Layout.{part, in_use, all_zero, others_zero, rect_count, item_count, counts_fit}
use Rattle.layout.specs.Nodes.{NodePart}
use Rattle.layout.proofs.NodeLaws.{rest_is}

-- the numbers of a part's items
pub few_numbers : (w n : ℕ) → w ≤ 3 → n ≤ 8 → w * n ≤ 24
few_numbers w n a b = mul-le-mul a b

zero_append : (l k : List ℕ) → all_zero (l ++ k) ≡ all_zero l && all_zero k
unfolding all_zero
zero_append [] k = refl
zero_append (a ∷ l) k = ap (λ b. eqb a 0 && b) (zero_append l k) ∙ sym (and_assoc (eqb a 0) (all_zero l) (all_zero k))

-- the numbers from i on are zero exactly if those before the j-th and those from it on are
zero_split : (p : List ℕ) (i j : ℕ) → i ≤ j → all_zero (drop i p) ≡ all_zero (take (j - i) (drop i p)) && all_zero (drop j p)
zero_split p i j h =
    let e : i + (j - i) ≡ j = omega arith in
    ap all_zero (sym (take-append-drop (j - i) (drop i p))) ∙ zero_append (take (j - i) (drop i p)) (drop (j - i) (drop i p))
    ∙ ap (λ q. all_zero (take (j - i) (drop i p)) && all_zero q) (drop-drop (j - i) i p ∙ ap (λ (n : ℕ). drop n p) e)

-- the numbers behind the items: those before the 90th were tested, and then those from it on
module _ (w : ℕ) (p : List ℕ) (v : NodePart p) (h : w ≤ 3) (n : ℕ) (q : n ≡ item_count p) (a : Bool) (e : a ≡ all_zero (take (90 - (66 + w * n)) (drop (66 + w * n) p))) where
  whole : all_zero (drop (66 + w * item_count p) p) ≡ a && all_zero (take (length p - 90) (drop 90 p))
  whole =
      let m = few_numbers w (item_count p) h v.few_items in
      zero_split p (66 + w * item_count p) 90 (omega arith) ∙ rw (← q, ← e) (ap (λ l. a && all_zero l) (sym (rest_is p 90)))

  pub items_stop : a ≡ false → a ≡ all_zero (drop (66 + w * item_count p) p)
  items_stop f = rw (whole, f)

  pub items_last : (b : Bool) → a ≡ true → b ≡ all_zero (take (length p - 90) (drop 90 p)) → b ≡ all_zero (drop (66 + w * item_count p) p)
  items_last b f g = rw (whole, ← g, f)

-- a part whose counts fit
pub counted_part : (p : List ℕ) → length p ≡ 128 → counts_fit fanout p ≡ true → NodePart p
unfolding counts_fit
counted_part p l e =
    let g = all4 (leb 1 (rect_count p)) (leb (rect_count p) 16) (leb 1 (item_count p)) (leb (item_count p) 8) e in
    record { length_is = l; few_rects = leb-true _ _ g.1; few_items = leb-true _ _ g.3 }

-- the first parts are in use or all zero
pub unused_all : (m : List ℕ) (n : ℕ) → list_all (λ k. in_use m k || all_zero (part m k)) (range_with_len 0 n) ≡ others_zero m n
unfolding others_zero
unused_all m zero = refl
unused_all m (suc n) =
    let f : ℕ → Bool = λ k. in_use m k || all_zero (part m k) in
    let e : map f (range_with_len 0 (suc n)) ≡ map f (range_with_len 0 n) ++ (f n ∷ []) = rw add-one at (map-range_with_len_more f 0 n n (omega arith)) in
    sym (list_all-map (λ b. b) f (range_with_len 0 (suc n))) ∙ ap (list_all (λ b. b)) e ∙ list_all-append (λ b. b) (map f (range_with_len 0 n)) (f n ∷ [])
    ∙ ap (λ b. b && (f n && true)) (list_all-map (λ b. b) f (range_with_len 0 n) ∙ unused_all m n)
    ∙ ap (λ b. others_zero m n && b) (and-true (f n))
