-- The rules of lists of rectangles, over any rectangles: they look at a rectangle only through its own rules, which
-- are their first argument. The geometry's rules and the tree's are both instances of these.
-- docs/RULES.md 2.6, 2.10, 2.13, 2.14, 2.32, 4.5, 4.6, 4.9, 4.15, 4.26, 5.14
use Rattle.std.specs.Prelude.{ℕ, Bool, ◌&&◌, not}
use mathlib.Core.List.{List, [], ◌∷◌, flat_map}
use Rattle.std.proofs.Math.Option.{Option, some, bind}
use Rattle.polygons.specs.Limits.{most_pieces, at_most}
use Rattle.polygons.specs.Lists.{any, least}

-- 'its cells are their union': some rectangle of the list has the cell
abbrev pub union_has : {A C : Type 0} → (A → C → Bool) → List A → C → Bool
union_has has l c = any (λ r. has r c) l

-- how many cells of a rectangle a polygon lacks. count gives how many cells of the grid pass a test.
abbrev pub lacked_by : {A C : Type 0} → ((C → Bool) → ℕ) → (A → C → Bool) → List A → A → ℕ
lacked_by count has p r = count (λ c. has r c && not (union_has has p c))

-- A.2: 'extra area is the number of cells of the grown rectangle that the whole polygon lacks': of a polygon, one of
-- its rectangles, and the cell that the rectangle grows to
abbrev pub extra_area_by : {A C : Type 0} → ((C → Bool) → ℕ) → (A → C → Bool) → (A → C → A) → List A → A → C → ℕ
extra_area_by count has grow p r c = lacked_by count has p (grow r c)

-- A.6: 'the number of cells it removed, a cell under several rectangles counted once': of a list that is cut by a
-- polygon, the cells that both have
abbrev pub removed_by : {A C : Type 0} → ((C → Bool) → ℕ) → (A → C → Bool) → List A → List A → ℕ
removed_by count has l p = count (λ c. union_has has l c && union_has has p c)

-- 'A list is cut by S piece by piece, in order.'
abbrev pub cut_pieces : {A : Type 0} → (A → A → List A) → List A → A → List A
cut_pieces cut l s = flat_map (λ r. cut r s) l

-- 'Cutting by a polygon applies its rectangles one after another', none as soon as the list is 'over 256 after a
-- single cut'. Insertion's step 2: 'cut the grown one by every sibling's polygon in order', 'pieces over 256 after a
-- cut by one rectangle'.
unfoldable pub cut_each : {A : Type 0} → (A → A → List A) → List A → List A → Option (List A)
cut_each cut l [] = some l
cut_each cut l (s ∷ p) = bind (at_most most_pieces (cut_pieces cut l s)) λ m. cut_each cut m p

-- Insertion's step 2: 'replace each piece by its common parts with the parent's rectangles ..., in order'
abbrev pub commons_with : {A : Type 0} → (A → A → List A) → List A → A → List A
commons_with common p r = flat_map (common r) p

abbrev pub commons : {A : Type 0} → (A → A → List A) → List A → List A → List A
commons common l p = flat_map (commons_with common p) l

-- 'clips the polygon's rectangles to each side, in order': clip gives the part of one rectangle, none where that is
-- empty
abbrev pub clip_each : {A : Type 0} → (A → List A) → List A → List A
clip_each clip p = flat_map clip p

-- 'and refines them'
abbrev pub clip_refine : {A : Type 0} → (A → List A) → (List A → List A) → List A → List A
clip_refine clip refine p = refine (clip_each clip p)

-- 'the least squared distance from the cell to a cell of the child's polygon': the least over its rectangles. distance
-- gives that of one rectangle.
abbrev pub least_distance : {A C : Type 0} → (C → A → ℕ) → C → List A → ℕ
least_distance distance c p = least (distance c) p
