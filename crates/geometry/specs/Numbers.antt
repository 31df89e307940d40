-- Lists of rectangles as numbers, four a rectangle: llx, lly, urx, ury.
use Rattle.std.specs.Prelude.{ℕ, zero, suc, ◌+◌, ◌*◌, ◌≤◌, List, [], ◌∷◌, ◌++◌, ◌≡◌, get_or, set, length, take, Result, Ok, Err}
use Rattle.std.proofs.Math.Option.{Option, none, some}
use Rattle.geometry.specs.declared.rect.Rect.{Rect}
use Rattle.geometry.specs.declared.polygon.Polygon.{Polygon}
use Rattle.geometry.specs.declared.cut.TooMany.{TooMany}

-- the i-th rectangle of some numbers
unfoldable pub rect_at : List ℕ → ℕ → Rect
rect_at m i = record {
  llx = get_or m (4 * i) 0;
  lly = get_or m (4 * i + 1) 0;
  urx = get_or m (4 * i + 2) 0;
  ury = get_or m (4 * i + 3) 0;
}

-- the first n rectangles of some numbers
unfoldable pub rects_in : List ℕ → ℕ → List Rect
rects_in m zero = []
rects_in m (suc n) = rects_in m n ++ (rect_at m n ∷ [])

-- the numbers with a rectangle at the i-th place
unfoldable pub put_at : List ℕ → ℕ → Rect → List ℕ
put_at m i r = set (set (set (set m (4 * i) r.llx) (4 * i + 1) r.lly) (4 * i + 2) r.urx) (4 * i + 3) r.ury

-- the numbers of a list of rectangles
unfoldable pub numbers_of : List Rect → List ℕ
numbers_of [] = []
numbers_of (r ∷ l) = r.llx ∷ r.lly ∷ r.urx ∷ r.ury ∷ numbers_of l

-- the list that a polygon holds
abbrev pub rects_of : Polygon → List Rect
rects_of p = take p.count p.rects

-- what a count of rectangles in some numbers stands for: that list, or none where the list was over its limit
unfoldable pub counted : Result ℕ TooMany → List ℕ → Option (List Rect)
counted (Ok n) m = some (rects_in m n)
counted (Err e) m = none

-- a count is at most 256
abbrev pub at_most256 : Result ℕ TooMany → Type 0
at_most256 (Ok n) = n ≤ 256
at_most256 (Err e) = Unit {0}

-- At most k rectangles were written behind the first n of the numbers m, which gives the first n' of m'.
pub record Appended (m : List ℕ) (n : ℕ) (new : List Rect) (k : ℕ) (m' : List ℕ) (n' : ℕ) : Type 0 where
  pub list : rects_in m' n' ≡ rects_in m n ++ new
  pub few : n' ≤ n + k
  pub same_length : length m' ≡ length m

-- The numbers m' hold the limited list, and there are as many as before.
pub record Written (m : List ℕ) (limited : Option (List Rect)) (count : Result ℕ TooMany) (m' : List ℕ) : Type 0 where
  pub list : counted count m' ≡ limited
  pub few : at_most256 count
  pub same_length : length m' ≡ length m

-- A polygon holds the list.
pub record PolygonOf (l : List Rect) (p : Polygon) : Type 0 where
  pub list : rects_of p ≡ l
  pub fits : p.count ≤ 16
