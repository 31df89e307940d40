-- The loop over the branches of a node that counts the sides of one line.
use Prim.Native.Nat.{ℕ, zero, suc, ◌+◌, ◌≤◌, ◌<◌}
use mathlib.Core.Path.{◌≡◌, refl, sym, ap, ◌∙◌}
use mathlib.Core.Bool.{Bool, true, false, cond, ◌&&◌}
use mathlib.Core.List.{List, [], ◌∷◌, ◌++◌, map, map-append}
use native.Mathlib.Omega.{arith}
use lib.ListN.{length, length-map, take, get_or}
use lib.Seq.{take_all, length-take-le}
use Rattle.std.proofs.lemmas.List.{take_more}
use Rattle.geometry.specs.declared.rect.Line.{Line}
use Rattle.geometry.specs.declared.rect.Rect.{Rect}
use Rattle.geometry.specs.Cells.{valid}
use Rattle.tree.specs.Lists.{All, keep}
use Rattle.tree.specs.Space.{left, right}
use Rattle.tree.proofs.Counts.{count_of_append, count_of_cons, length_keep}
use Rattle.plane.specs.Lines.{on_both}
use Rattle.plane.specs.Candidates.{Extent, extent_on}
use Rattle.split_line.specs.declared.candidates.Counts.{Counts}
use Rattle.split_line.specs.Extents.{rect_extent, extents_in, ExtentList, counts_of, added_counts}

-- what holds of all rectangles holds of the i-th
rect_all : (P : Rect → Type 0) (l : List Rect) (i : ℕ) (d : Rect) → i < length l → All P l → P (get_or l i d)
unfolding All
rect_all P [] i d h a = absurd (omega arith)
rect_all P (r ∷ l) zero d h a = a.0
rect_all P (r ∷ l) (suc i) d h a = rect_all P l i d (omega arith) a.1

pub extents_next : (l : List Rect) (i : ℕ) (d : Rect) → i < length l → extents_in (take (i + 1) l) ≡ extents_in (take i l) ++ (rect_extent (get_or l i d) ∷ [])
unfolding extents_in
extents_next l i d h = ap (map rect_extent) (take_more l i d h) ∙ map-append rect_extent (take i l) (get_or l i d ∷ [])

extents_length : (l : List Rect) → length (extents_in l) ≡ length l
unfolding extents_in
extents_length l = length-map l rect_extent

pub rect_valid : (l : List Rect) (i : ℕ) (d : Rect) → ExtentList l → i < length l → valid (get_or l i d) ≡ true
rect_valid l i d v h = rect_all (λ r. valid r ≡ true) l i d h v.each

-- one more branch on the sides of a line
count_more : (q : Extent → Bool) (es : List Extent) (e : Extent) → length (keep q (es ++ (e ∷ []))) ≡ length (keep q es) + cond (q e) 1 0
unfolding keep
count_more q es e = let a = count_of_append q es (e ∷ []) in let b = count_of_cons q e [] in omega arith

both_one : (a b : Bool) → cond {A = ℕ} (a && b) 1 0 ≡ cond a (cond b 1 0) 0
both_one true b = refl
both_one false b = refl

counts_more : (es : List Extent) (e : Extent) (line : Line) → added_counts (counts_of es line) (extent_on (left line) e) (extent_on (right line) e) ≡ counts_of (es ++ (e ∷ [])) line
unfolding added_counts counts_of
counts_more es e line =
    let a = count_more (extent_on (left line)) es e in
    let b = count_more (extent_on (right line)) es e in
    let c = count_more (λ e. extent_on (left line) e && extent_on (right line) e) es e ∙ ap (λ k. on_both extent_on es line + k) (both_one (extent_on (left line) e) (extent_on (right line) e)) in
    λ i. record { lefts = sym a i; rights = sym b i; both = sym c i }

-- no more branches on a side than branches
record FewCounts (n : ℕ) (k : Counts) : Type 0 where
  lefts : k.lefts ≤ n
  rights : k.rights ≤ n
  both : k.both ≤ n

few_counts : (l : List Rect) (line : Line) → FewCounts (length l) (counts_of (extents_in l) line)
unfolding counts_of
few_counts l line =
    let e = extents_length l in
    let a = length_keep (extent_on (left line)) (extents_in l) in
    let b = length_keep (extent_on (right line)) (extents_in l) in
    let c = length_keep (λ e. extent_on (left line) e && extent_on (right line) e) (extents_in l) in
    record { lefts = omega arith; rights = omega arith; both = omega arith }

-- Before the i-th branch: the counts of those before it.
pub record AtCount (l : List Rect) (line : Line) (i : ℕ) (k : Counts) : Type 0 where
  pub i_le : i ≤ length l
  pub list : ExtentList l
  pub so_far : k ≡ counts_of (extents_in (take i l)) line

pub counting_start : (l : List Rect) (line : Line) → ExtentList l → AtCount l line 0 (record { lefts = 0; rights = 0; both = 0 })
unfolding counts_of extents_in keep
counting_start l line v = record { i_le = omega arith; list = v; so_far = refl }

module _ (l : List Rect) (line : Line) (i : ℕ) (k : Counts) (a : AtCount l line i k) where
  pub counting_end : length l ≤ i → k ≡ counts_of (extents_in l) line
  counting_end h = a.so_far ∙ ap (λ q. counts_of (extents_in q) line) (take_all i l h)

  few : FewCounts i k
  few = let n = length-take-le i l a.i_le in rw a.so_far (rw n at (few_counts (take i l) line))

  module _ (h : i < length l) where
    pub few_lefts : k.lefts ≤ 8
    few_lefts = let f = few.lefts in let g = a.list.few in omega arith

    pub few_rights : k.rights ≤ 8
    few_rights = let f = few.rights in let g = a.list.few in omega arith

    pub few_both : k.both ≤ 8
    few_both = let f = few.both in let g = a.list.few in omega arith

    pub counting_again : (d : Rect) (p q : Bool) (k' : Counts) → p ≡ extent_on (left line) (rect_extent (get_or l i d)) → q ≡ extent_on (right line) (rect_extent (get_or l i d))
        → k' ≡ added_counts k p q → AtCount l line (i + 1) k'
    counting_again d p q k' f g j = record {
      i_le = omega arith;
      list = a.list;
      so_far = j ∙ rw (f, g, a.so_far, extents_next l i d h) (counts_more (extents_in (take i l)) (rect_extent (get_or l i d)) line);
    }
