-- Pairs of rectangles, which the refine of a polygon looks through in the order of the list, and what it finds.
use Rattle.std.specs.Prelude.{◌≡◌, Option, None, Some, Bool, false, ◌||◌, List, ℕ, ◌≤◌, ◌<◌, length, get_or}
use Rattle.geometry.specs.declared.rect.Rect.{Rect}
use Rattle.geometry.specs.declared.polygon.Polygon.{Polygon}
use Rattle.geometry.specs.Cells.{no_rect}
use Rattle.geometry.specs.Numbers.{rects_of}
use Rattle.geometry.specs.Refine.{within, dropped, joinable, joined, refine}
use Rattle.refinement.specs.declared.polygon_refine.Next.{Next}
use Rattle.refinement.specs.declared.polygon_refine.Next.TheVariants.{Drop, Join}

-- one of the two is contained in the other
unfoldable pub nested : Rect → Rect → Bool
nested r s = within s r || within r s

-- one of the two is contained in the other, or they are joinable
unfoldable pub near : Rect → Rect → Bool
near r s = nested r s || joinable r s

-- No rectangle before the i-th passes the test with a later one.
pub record Apart (q : Rect → Rect → Bool) (l : List Rect) (i : ℕ) : Type 0 where
  pub apart : (a b : ℕ) → a < i → a < b → b < length l → q (get_or l a no_rect) (get_or l b no_rect) ≡ false

-- No rectangle before the i-th passes the test with a later one, and the i-th with none before the j-th.
pub record Clear (q : Rect → Rect → Bool) (l : List Rect) (i j : ℕ) : Type 0 where
  pub rows : Apart q l i
  pub row : (b : ℕ) → i < b → b < j → q (get_or l i no_rect) (get_or l b no_rect) ≡ false

-- No rectangle before the i-th is near a later one, but for the i-th itself.
pub record OthersApart (l : List Rect) (i : ℕ) : Type 0 where
  pub apart : (a b : ℕ) → a < i → a < b → b < length l → (b ≡ i → ⊥)
      → near (get_or l a no_rect) (get_or l b no_rect) ≡ false

-- The i-th can be dropped, and then no rectangle before the given one is near a later one.
pub record Dropping (p : Polygon) (i from : ℕ) : Type 0 where
  pub low : from ≤ i
  pub inside : i < p.count
  pub same : refine (dropped (rects_of p) i) ≡ refine (rects_of p)
  pub apart : Apart near (dropped (rects_of p) i) from

-- The i-th and the j-th can be joined, and then no rectangle before their union is near another later one.
pub record Joining (p : Polygon) (i j : ℕ) : Type 0 where
  pub after : i < j
  pub inside : j < p.count
  pub same : refine (joined (rects_of p) i j) ≡ refine (rects_of p)
  pub others : OthersApart (joined (rects_of p) i j) i

-- what comes next in refining a polygon, if anything does
abbrev pub NextIs : Polygon → Option Next → Type 0
NextIs p (Some (Drop i from)) = Dropping p i from
NextIs p (Some (Join i j)) = Joining p i j
NextIs p None = refine (rects_of p) ≡ rects_of p
