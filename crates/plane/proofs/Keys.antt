-- Comparing by one number: first by f, then by the order of the list.
use Prim.Native.Nat.{ℕ, zero, suc, ◌+◌, ◌*◌, ◌<◌, ◌≤◌}
use mathlib.Core.Path.{◌≡◌, refl, sym, ap, ◌∙◌}
use mathlib.Core.List.{List, [], ◌∷◌, ◌++◌, map}
use lib.Dec.{leb}
use native.Mathlib.Omega.{arith}
use native.Mathlib.Decide.{dec_le}
use borrow.Author.Tests.{le-leb, lt-leb}
use Rattle.geometry.specs.declared.rect.Line.{Line}
use Rattle.geometry.specs.declared.rect.Line.TheVariants.{AtX, AtY}
use Rattle.tree.specs.Lists.{All, Pairs}
use Rattle.tree.proofs.Lists.{all_append, all_both, pairs_append, pairs_map, all_of_map}
use Rattle.plane.specs.Best.{best, up_from}
use Rattle.plane.specs.Lines.{lines}
use Rattle.plane.specs.Candidates.{line_number}
use Rattle.plane.proofs.Best.{combine, fold, fold_some, best_fold}
use Rattle.plane.proofs.Range.{InRange}

leb_key : (a b g h : ℕ) → g < h → h < 131072 → leb a b ≡ leb (a * 131072 + g) (b * 131072 + h)
leb_key a b g h k n = go (dec_le a b)
  where
    go : Dec (a ≤ b) → leb a b ≡ leb (a * 131072 + g) (b * 131072 + h)
    go (yes e) = le-leb a b e ∙ sym (le-leb (a * 131072 + g) (b * 131072 + h) (omega arith))
    go (no e) = lt-leb a b (omega arith) ∙ sym (lt-leb (a * 131072 + g) (b * 131072 + h) (omega arith))

module _ {A : Type 0} (f g : A → ℕ) where
  -- in a list with rising g, the first of the least f is the first of the least key
  fold_key : (l : List A) → Pairs (λ a b. g a < g b) l → All (λ a. g a < 131072) l → fold f l ≡ fold (λ a. f a * 131072 + g a) l
  unfolding fold Pairs All
  fold_key [] p n = refl
  fold_key (a ∷ []) p n = refl
  fold_key (a ∷ b ∷ l) p n =
      let m = fold_some (λ a. f a * 131072 + g a) (λ y. (g a < g y) × (g y < 131072)) (b ∷ l) (omega arith) (all_both (λ y. g a < g y) (λ y. g y < 131072) (b ∷ l) p.0 n.1) in
      ap (combine f a) (fold_key (b ∷ l) p.1 n.1)
      ∙ rw (m.found, leb_key (f a) (f m.it) (g a) (g m.it) m.has.0 m.has.1)

  pub best_key : (l : List A) → Pairs (λ a b. g a < g b) l → All (λ a. g a < 131072) l → best f l ≡ best (λ a. f a * 131072 + g a) l
  best_key l p n = best_fold f l ∙ fold_key l p n ∙ sym (best_fold (λ a. f a * 131072 + g a) l)

-- numbers from k on
up_all : (P : ℕ → Type 0) (k n : ℕ) → ((i : ℕ) → k ≤ i → i < k + n → P i) → All P (up_from k n)
unfolding up_from All
up_all P k zero h = tt
up_all P k (suc n) h = (h k (omega arith) (omega arith), up_all P (suc k) n (λ i a b. h i (omega arith) (omega arith)))

up_pairs : (k n : ℕ) → Pairs (λ i j. i < j) (up_from k n)
unfolding up_from Pairs
up_pairs k zero = tt
up_pairs k (suc n) = (up_all (λ j. k < j) (suc k) n (λ i a b. omega arith), up_pairs (suc k) n)

map_pairs : {A B : Type 0} (R : B → B → Type 0) (f : A → B) (l : List A) → Pairs (λ a b. R (f a) (f b)) l → Pairs R (map f l)
unfolding Pairs
map_pairs R f [] h = tt
map_pairs R f (a ∷ l) h = (all_of_map (R (f a)) f l h.0, map_pairs R f l h.1)

y_pairs : (l : List ℕ) → Pairs (λ i j. i < j) l → Pairs (λ i j. 65536 + i < 65536 + j) l
y_pairs l h = pairs_map (λ i j. i < j) (λ i j. 65536 + i < 65536 + j) l (λ i j r. omega arith) h

lines_to : (n : ℕ) → n ≤ 65535 → Pairs (λ a b. line_number a < line_number b) (map AtX (up_from 1 n) ++ map AtY (up_from 1 n))
lines_to n h = pairs_append (λ a b. line_number a < line_number b) (map AtX (up_from 1 n)) (map AtY (up_from 1 n))
    (map_pairs (λ a b. line_number a < line_number b) AtX (up_from 1 n) (up_pairs 1 n))
    (map_pairs (λ a b. line_number a < line_number b) AtY (up_from 1 n) (y_pairs (up_from 1 n) (up_pairs 1 n)))
    (all_of_map (λ a. All (λ b. line_number a < line_number b) (map AtY (up_from 1 n))) AtX (up_from 1 n) (up_all _ 1 n (λ i a b. all_of_map (λ c. i < line_number c) AtY (up_from 1 n) (up_all _ 1 n (λ j c d. omega arith)))))

-- the lines of the definition rise in line_number
pub lines_rise : Pairs (λ a b. line_number a < line_number b) lines
unfolding lines
lines_rise = lines_to 65535 (omega arith)

range_to : (n : ℕ) → n ≤ 65535 → All InRange (map AtX (up_from 1 n) ++ map AtY (up_from 1 n))
range_to n h = all_append InRange (map AtX (up_from 1 n)) (map AtY (up_from 1 n))
    (all_of_map InRange AtX (up_from 1 n) (up_all _ 1 n (λ i a b. (a, omega arith))))
    (all_of_map InRange AtY (up_from 1 n) (up_all _ 1 n (λ i a b. (a, omega arith))))

-- and are from 1 to 65535
pub lines_range : All InRange lines
unfolding lines
lines_range = range_to 65535 (omega arith)

-- lines from 1 to 65535 have ranks below 131072, and lines of one line_number are equal
pub number_bound : (l : Line) → InRange l → line_number l < 131072
number_bound (AtX l) r = let a = r.1 in omega arith
number_bound (AtY l) r = let a = r.1 in omega arith

pub number_one : (l m : Line) → InRange l → InRange m → line_number l ≡ line_number m → l ≡ m
number_one (AtX l) (AtX m) r s e = ap AtX e
number_one (AtX l) (AtY m) r s e = let a = r.1 in absurd (omega arith)
number_one (AtY l) (AtX m) r s e = let a = s.1 in absurd (omega arith)
number_one (AtY l) (AtY m) r s e = let k : l ≡ m = omega arith in ap AtY k
