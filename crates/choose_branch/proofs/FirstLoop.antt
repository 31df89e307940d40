-- The loop that looks for the first child whose polygon has the cell, and what its place says.
use Prim.Native.Nat.{ℕ, zero, suc, ◌+◌, ◌≤◌, ◌<◌}
use mathlib.Core.Path.{◌≡◌, refl, sym, ◌∙◌}
use mathlib.Core.Bool.{Bool, true, false, cond}
use mathlib.Core.List.{List, [], ◌∷◌}
use native.Mathlib.Omega.{arith}
use lib.ListN.{length, take, drop, get_or}
use Rattle.std.proofs.Common.{Some, None}
use Rattle.std.specs.List.{position, position_from}
use Rattle.std.proofs.lemmas.Iterator.Adapters.{position_from-zero}
use Rattle.geometry.specs.declared.rect.Cell.{Cell}
use Rattle.tree.specs.Lists.{All}
use Rattle.memory.specs.Layout.{part, polygon_in}
use Rattle.layout.specs.Nodes.{count_at, child_at, PolygonPart}
use Rattle.walks.specs.Walks.{has_test}
use Rattle.choose_branch.specs.Branches.{polygons_in, Branches}
use Rattle.choose_branch.proofs.ChildParts.{next_polygon}

-- The first i of the n children do not have the cell.
pub record Looking (m : List ℕ) (k : ℕ) (c : Cell) (n i : ℕ) : Type 0 where
  pub branches : Branches m k
  pub count : n ≡ count_at m k
  pub rest : position (has_test c) (polygons_in m k) ≡ position_from (has_test c) i (drop i (polygons_in m k))

module _ (m : List ℕ) (k : ℕ) (c : Cell) (n : ℕ) where
  pub look_start : Branches m k → n ≡ count_at m k → Looking m k c n 0
  look_start v q = record { branches = v; count = q; rest = position_from-zero (has_test c) (polygons_in m k) }

  module _ (i : ℕ) (v : Looking m k c n i) where
    module _ (j : ℕ) (h : i < n) (q : j ≡ child_at m k i) where
      pub look_child : PolygonPart m j
      look_child = rw q (v.branches.good i (rw v.count at h)).polygon

      next : drop i (polygons_in m k) ≡ polygon_in (part m j) ∷ drop (i + 1) (polygons_in m k)
      next = rw q (next_polygon m k v.branches i (rw v.count at h))

      module _ (b : Bool) (e : b ≡ has_test c (polygon_in (part m j))) where
        pub look_hit : b ≡ true → Some i ≡ position (has_test c) (polygons_in m k)
        look_hit f = sym (v.rest ∙ rw (next, ← e, f))

        pub look_again : b ≡ false → Looking m k c n (i + 1)
        look_again f = record {
          branches = v.branches;
          count = v.count;
          rest = v.rest ∙ rw (next, ← e, f);
        }

-- What the first place says of a list.
module _ {A : Type 0} (t : A → Bool) where
  -- none passes, where there is no place
  from_none : (l : List A) (i : ℕ) → position_from t i l ≡ None → All (λ a. t a ≡ false) l
  unfolding All
  from_none [] i h = tt
  from_none (a ∷ l) i h = go (t a) refl (from_none l (i + 1)) h
    where
      go : (b : Bool) → t a ≡ b → (position_from t (i + 1) l ≡ None → All (λ x. t x ≡ false) l)
          → cond b (Some i) (position_from t (i + 1) l) ≡ None → All (λ x. t x ≡ false) (a ∷ l)
      go true e f h = absurd cc
      go false e f h = (e, f h)

  pub none_passes : (l : List A) → position t l ≡ None → All (λ a. t a ≡ false) l
  none_passes l h = from_none l 0 (sym (position_from-zero t l) ∙ h)

  -- none passes before the place
  pub none_before : (l : List A) (i : ℕ) (d : A) → ((k : ℕ) → k < i → t (get_or l k d) ≡ false) → i ≤ length l
      → All (λ a. t a ≡ false) (take i l)
  unfolding All
  none_before l zero d f h = tt
  none_before [] (suc i) d f h = absurd (omega arith)
  none_before (a ∷ l) (suc i) d f h = (f 0 (omega arith), none_before l i d (λ k g. f (suc k) (omega arith)) (omega arith))
