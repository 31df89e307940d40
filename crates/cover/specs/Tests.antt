-- Lists of rectangles against each other, as tests: a rectangle covered by a list, one list inside another, two apart.
-- The theorems of CoverCells say that they pass exactly where the cells are so.
-- docs/RULES.md 2.7, 3.7, 3.8
use Rattle.std.specs.Prelude.{◌≡◌, Bool, true, false, ◌&&◌, not, cond, List, [], ◌∷◌, Option, Some, None}
use Rattle.polygons.specs.Lists.{any}
use Rattle.geometry.specs.declared.rect.Rect.{Rect}
use Rattle.geometry.specs.Common.{shares_with, unless_empty}
use Rattle.geometry.specs.Cut.{cut_all}

-- every element passes
unfoldable pub all_pass : {A : Type 0} → (A → Bool) → List A → Bool
all_pass p [] = true
all_pass p (a ∷ l) = p a && all_pass p l

-- every two elements pass, the earlier first
unfoldable pub pairs_pass : {A : Type 0} → (A → A → Bool) → List A → Bool
pairs_pass p [] = true
pairs_pass p (a ∷ l) = all_pass (p a) l && pairs_pass p l

-- nothing is left of a list
unfoldable pub is_none : {A : Type 0} → List A → Bool
is_none [] = true
is_none (a ∷ l) = false

-- the cells of r lie among those of the polygon: nothing is left of r cut by it
unfoldable pub covered_by : List Rect → Rect → Bool
covered_by p r = is_none (cut_all (r ∷ []) p)

-- 'a child's cells lie among its parent's'
unfoldable pub inside_of : List Rect → List Rect → Bool
inside_of p q = all_pass (covered_by p) q

-- two polygons 'share no cell'
unfoldable pub apart : List Rect → List Rect → Bool
apart p q = all_pass (λ r. not (any (shares_with r) q)) p

-- nothing of r, which may be empty, is left
unfoldable pub none_remaining : List Rect → Rect → Bool
none_remaining p r = all_pass (covered_by p) (unless_empty r)

-- the list from its first rectangle that shares a cell with r on: those before it cut nothing of r
unfoldable pub from_shared : List Rect → Rect → List Rect
from_shared [] r = []
from_shared (s ∷ p) r = let later = from_shared p r in cond (shares_with s r) (s ∷ p) later

-- the first rectangle that shares a cell with r, if there is one, was found, and the rest stands behind it
abbrev pub FirstShared : List Rect → Rect → Option Rect → List Rect → Type 0
FirstShared p r None rest = from_shared p r ≡ []
FirstShared p r (Some s) rest = from_shared p r ≡ s ∷ rest
