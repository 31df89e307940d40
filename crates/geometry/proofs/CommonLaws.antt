-- Common parts, of two rectangles and of lists; limited lists.
use mathlib.Core.Path.{◌≡◌, refl, sym, ◌∙◌, ap}
use mathlib.Core.Bool.{Bool, true, false, ◌&&◌, cond, and_comm}
use mathlib.Core.List.{List, [], ◌∷◌}
use mathlib.Core.Logic.{◌⊎◌}
use mathlib.Core.Option.{none, some}
use Prim.Native.Nat.{◌≤◌}
use Rattle.std.proofs.Common.{Option, Some, None}
use native.Mathlib.Omega.{arith}
use lib.ListN.{length}
use Rattle.polygons.specs.Limits.{most_pieces}
use Rattle.polygons.specs.Lists.{any}
use Rattle.polygons.proofs.LimitLaws.{at_most_is, at_most_length, at_most_or}
use Rattle.polygons.proofs.Booleans.{not_both, same, both, split_and}
use Rattle.polygons.proofs.ListLaws.{length_flat_map}
use Rattle.geometry.specs.declared.rect.Cell.{Cell}
use Rattle.geometry.specs.declared.rect.Rect.{Rect}
use Rattle.geometry.specs.Cells.{has_cell, non_empty, valid, all_valid, any_has}
use Rattle.geometry.specs.Common.{overlap, common_part, unless_empty, common, common_with, common_parts}
use Rattle.geometry.specs.Cut.{common_limited}
use Rattle.geometry.proofs.CellLaws.{in_of, of_in, valid_of, corner, corner_in, has_unless_empty, valid_unless_empty, length_unless_empty, has_flat, valid_flat, valid_flat_of}

-- the common part as a list
abbrev pub part_list : Option Rect → List Rect
part_list (Some u) = u ∷ []
part_list None = []

module _ (r s : Rect) where
  -- the overlap of two rectangles has the cells in both
  pub overlap_cells : (c : Cell) → has_cell (overlap r s) c ≡ has_cell r c && has_cell s c
  unfolding overlap
  overlap_cells c = same _ _
      (λ t. let i = in_of (overlap r s) c t in both _ _ (of_in r c (omega arith)) (of_in s c (omega arith)))
      (λ t. let k = split_and (has_cell r c) (has_cell s c) t in let i = in_of r c k.0 in let j = in_of s c k.1 in of_in (overlap r s) c (omega arith))

  -- the common part of two rectangles has the cells in both
  pub common_cells : (c : Cell) → any_has (common r s) c ≡ has_cell r c && has_cell s c
  unfolding common
  common_cells c = has_unless_empty (overlap r s) c ∙ overlap_cells c

  -- where two rectangles have a common part, its corner is a cell in both
  pub common_some : non_empty (overlap r s) ≡ true → (has_cell r (corner (overlap r s)) ≡ true) × (has_cell s (corner (overlap r s)) ≡ true)
  common_some e = let c = corner (overlap r s) in split_and (has_cell r c) (has_cell s c) (sym (overlap_cells c) ∙ corner_in (overlap r s) e)

  -- where two rectangles have no common part, no cell is in both
  pub none_shared : common r s ≡ [] → (c : Cell) → has_cell r c && has_cell s c ≡ false
  unfolding any_has any
  none_shared e c = sym (common_cells c) ∙ ap (λ l. any_has l c) e

  -- where no cell is in two rectangles, they have no common part
  pub shared_none : ((c : Cell) → has_cell r c && has_cell s c ≡ false) → common r s ≡ []
  unfolding common unless_empty
  shared_none h = go (non_empty (overlap r s)) refl
    where
      go : (b : Bool) → non_empty (overlap r s) ≡ b → cond b (overlap r s ∷ []) [] ≡ []
      go true e = let k = common_some e in absurd (not_both _ (both _ _ k.0 k.1) (h (corner (overlap r s))))
      go false e = refl

  -- the common part as an option and as a list are the same
  pub part_list_lem : part_list (common_part r s) ≡ common r s
  unfolding common common_part unless_empty
  part_list_lem = go (non_empty (overlap r s))
    where
      go : (b : Bool) → part_list (cond b (Some (overlap r s)) None) ≡ cond b (overlap r s ∷ []) []
      go true = refl
      go false = refl

  -- the common part of a valid rectangle with another is valid
  pub common_valid : valid r ≡ true → all_valid (common r s) ≡ true
  unfolding common overlap
  common_valid e = let v = valid_of r e in valid_unless_empty (overlap r s) (omega arith) (omega arith)

-- which case of the common part it was
some_case : (b : Bool) (u o : Rect) → Some u ≡ cond b (Some o) None → (b ≡ true) × (u ≡ o)
some_case true u o e = (refl, cc)
some_case false u o e = absurd cc

none_case : (b : Bool) (o : Rect) → None ≡ cond b (Some o) None → b ≡ false
none_case true o e = absurd cc
none_case false o e = refl

module _ (r s : Rect) (k : Option Rect) (p : k ≡ common_part r s) where
  pub has_common : (u : Rect) → k ≡ Some u → (non_empty (overlap r s) ≡ true) × (u ≡ overlap r s)
  unfolding common_part
  has_common u e = some_case (non_empty (overlap r s)) u (overlap r s) (sym e ∙ p)

  pub no_common : k ≡ None → non_empty (overlap r s) ≡ false
  unfolding common_part
  no_common e = none_case (non_empty (overlap r s)) (overlap r s) (sym e ∙ p)

module _ (p : List Rect) (r : Rect) where
  -- a rectangle's common parts with a list have the cells in the rectangle and in the list
  pub common_with_cells : (c : Cell) → any_has (common_with p r) c ≡ has_cell r c && any_has p c
  unfolding common_with
  common_with_cells c = has_flat (common r) c (has_cell r c) (λ s. common_cells r s c ∙ and_comm (has_cell r c) (has_cell s c)) p ∙ and_comm (any_has p c) (has_cell r c)

  -- a valid rectangle's common parts with a list are valid
  pub common_with_valid : valid r ≡ true → all_valid (common_with p r) ≡ true
  unfolding common_with
  common_with_valid e = valid_flat (common r) (λ s. common_valid r s e) p

  -- a rectangle's common parts with a list are no more than the list's rectangles
  pub common_with_length : length (common_with p r) ≤ length p
  unfolding common_with common
  common_with_length = length_flat_map (common r) p (λ s. length_unless_empty (overlap r s))

module _ (l p : List Rect) where
  -- the common parts of two lists have the cells in both
  pub common_parts_cells : (c : Cell) → any_has (common_parts l p) c ≡ any_has l c && any_has p c
  unfolding common_parts common_with
  common_parts_cells c = has_flat (common_with p) c (any_has p c) (λ r. common_with_cells p r c) l

  -- the common parts of a valid list with another are valid
  pub common_parts_valid : all_valid l ≡ true → all_valid (common_parts l p) ≡ true
  unfolding common_parts common_with
  common_parts_valid = valid_flat_of (common_with p) (common_with_valid p) l

-- limited common parts are the common parts, or are refused
pub common_limited_or : (l p : List Rect) → (common_limited l p ≡ some (common_parts l p)) ⊎ (common_limited l p ≡ none)
unfolding common_limited
common_limited_or l p = at_most_or most_pieces (common_parts l p)

module _ (l p m : List Rect) (e : common_limited l p ≡ some m) where
  -- limited common parts that are not refused are the common parts
  pub common_limited_is : m ≡ common_parts l p
  unfolding common_limited
  common_limited_is = at_most_is most_pieces (common_parts l p) m e

  -- limited common parts that are not refused have the cells in both lists
  pub common_limited_cells : (c : Cell) → any_has m c ≡ any_has l c && any_has p c
  common_limited_cells c = rw common_limited_is (common_parts_cells l p c)

  -- limited common parts of a valid list are valid
  pub common_limited_valid : all_valid l ≡ true → all_valid m ≡ true
  common_limited_valid v = rw common_limited_is (common_parts_valid l p v)

  -- limited common parts that are not refused are at most 256
  pub common_limited_length : length m ≤ 256
  unfolding common_limited
  common_limited_length = at_most_length most_pieces (common_parts l p) m e
