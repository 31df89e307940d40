-- Document 01, 'Refine'.
-- docs/RULES.md 2.15 to 2.18
use Rattle.std.specs.Prelude.{ℕ, zero, suc, ◌+◌, ◌-◌, min, max, Bool, ◌&&◌, ◌||◌, not, cond, List, ◌++◌, ltb, leb, eqb, take, drop, length, get_or, set}
use Rattle.polygons.specs.Lists.{any}
use Rattle.geometry.specs.declared.rect.Rect.{Rect}
use Rattle.geometry.specs.Cells.{no_rect}

-- the first number from i on, of m numbers, that passes the test; i + m where none does
unfoldable pub first_from : (ℕ → Bool) → ℕ → ℕ → ℕ
first_from p i zero = i
first_from p i (suc m) = let later = first_from p (i + 1) m in cond (p i) i later

-- r is contained in s
unfoldable pub within : Rect → Rect → Bool
within r s = leb s.llx r.llx && leb r.urx s.urx && leb s.lly r.lly && leb r.ury s.ury

-- r is contained in s and is not equal to it
unfoldable pub strictly_within : Rect → Rect → Bool
strictly_within r s = within r s && not (within s r)

-- the i-th is 'contained in another (of equal ones the later counts as contained)'
unfoldable pub contained : List Rect → ℕ → Bool
contained l i =
    any (within (get_or l i no_rect)) (take i l) || any (strictly_within (get_or l i no_rect)) (drop (i + 1) l)

-- the first contained rectangle; the length where there is none
unfoldable pub first_contained : List Rect → ℕ
first_contained l = first_from (contained l) 0 (length l)

-- the list without its i-th rectangle
abbrev pub dropped : List Rect → ℕ → List Rect
dropped l i = take i l ++ drop (i + 1) l

-- equal ranges in x, touching or overlapping ranges in y
unfoldable pub stacked : Rect → Rect → Bool
stacked r s = eqb r.llx s.llx && eqb r.urx s.urx && leb r.lly s.ury && leb s.lly r.ury

-- equal ranges in y, touching or overlapping ranges in x
unfoldable pub abreast : Rect → Rect → Bool
abreast r s = eqb r.lly s.lly && eqb r.ury s.ury && leb r.llx s.urx && leb s.llx r.urx

-- 'equal range in one dimension and touching or overlapping ranges in the other'
unfoldable pub joinable : Rect → Rect → Bool
joinable r s = stacked r s || abreast r s

-- the union of two joinable rectangles
unfoldable pub union : Rect → Rect → Rect
union r s = record {
  llx = min r.llx s.llx;
  lly = min r.lly s.lly;
  urx = max r.urx s.urx;
  ury = max r.ury s.ury;
}

-- the i-th and the j-th are joinable
unfoldable pub joins : List Rect → ℕ → ℕ → Bool
joins l i j = joinable (get_or l i no_rect) (get_or l j no_rect)

-- 'the first j > i' that is joinable with i; the length where there is none
unfoldable pub partner : List Rect → ℕ → ℕ
partner l i = first_from (joins l i) (i + 1) (length l - (i + 1))

-- the i-th is joinable with a later one
unfoldable pub has_partner : List Rect → ℕ → Bool
has_partner l i = ltb (partner l i) (length l)

-- 'the first i'; the length where there is none
unfoldable pub first_join : List Rect → ℕ
first_join l = first_from (has_partner l) 0 (length l)

-- 'put their union at i and drop j'
abbrev pub joined : List Rect → ℕ → ℕ → List Rect
joined l i j = dropped (set l i (union (get_or l i no_rect) (get_or l j no_rect))) j

-- One step: 'Drop the first rectangle contained in another ... If there is none, take the first i, then the first j >
-- i, ...'. A list to which neither applies stays as it is.
unfoldable pub refine_step : List Rect → List Rect
refine_step l =
    cond (ltb (first_contained l) (length l)) (dropped l (first_contained l))
    (cond (ltb (first_join l) (length l)) (joined l (first_join l) (partner l (first_join l))) l)

-- n steps
unfoldable pub refine_steps : ℕ → List Rect → List Rect
refine_steps zero l = l
refine_steps (suc n) l = refine_steps n (refine_step l)

-- 'repeats this until neither applies'. Each step that applies shortens the list, so as many steps as it is long are
-- enough (the law refine_done: no further step applies to the result).
unfoldable pub refine : List Rect → List Rect
refine l = refine_steps (length l) l
