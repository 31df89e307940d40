-- What is known between two steps of refine, so that the search for the next step goes on where it stood.
use Rattle.std.specs.Prelude.{◌≡◌, Bool, false, ◌&&◌, not, cond, Option, None, Some, List, ℕ, ◌+◌, ◌-◌, ◌≤◌, ◌<◌, eqb, ltb, length, get_or}
use Rattle.std.specs.Option.{option_map}
use Rattle.geometry.specs.declared.rect.Rect.{Rect}
use Rattle.geometry.specs.Cells.{no_rect}
use Rattle.geometry.specs.Refine.{first_from, within, contained, first_contained, joinable, joins, partner, has_partner, first_join, refine_step}
use Rattle.geometry.specs.Numbers.{rects_in}
use Rattle.refinement.specs.declared.refine.Search.{Search}
use Rattle.refinement.specs.declared.refine.Search.TheVariants.{Contained, Union}

-- The place that a search found, from the definitions of the places, which give the length n where there is none.
unfoldable pub below : ℕ → ℕ → Option ℕ
below n i = cond (ltb i n) (Some i) None

-- a place with its partner
abbrev pub with_partner : List Rect → ℕ → ℕ × ℕ
with_partner l i = (i, partner l i)

-- the first two of n that are joinable: the first place that has a partner, and its partner
unfoldable pub first_two : List Rect → ℕ → Option (ℕ × ℕ)
first_two l n = option_map (with_partner l) (below n (first_join l))

-- the i-th is another than the p-th and is contained in it
unfoldable pub in_union : List Rect → ℕ → ℕ → Bool
in_union l p i = not (eqb i p) && within (get_or l i no_rect) (get_or l p no_rect)

-- the i-th is another than the p-th and is joinable with it
unfoldable pub joins_union : List Rect → ℕ → ℕ → Bool
joins_union l p i = not (eqb i p) && joinable (get_or l i no_rect) (get_or l p no_rect)

-- the first other one that is joinable with the p-th; the length where there is none
unfoldable pub union_partner : List Rect → ℕ → ℕ
union_partner l p = first_from (joins_union l p) 0 (length l)

-- the place of what stood at k, when the i-th is taken out: one less if i is before it
abbrev pub place_without : ℕ → ℕ → ℕ
place_without k i = k - (1 - (i + 1 - k))

-- Only in the p-th can another one be contained.
pub record OnlyContainer (l : List Rect) (p : ℕ) : Type 0 where
  pub inside : p < length l
  pub apart : (i j : ℕ) → i < length l → j < length l → (i ≡ j → ⊥) → (j ≡ p → ⊥)
      → within (get_or l i no_rect) (get_or l j no_rect) ≡ false

-- After a join, with the union at p: only in it can another one be contained, and before the given one none is joinable
-- with a later one, but the union may be.
pub record AfterJoin (l : List Rect) (p from : ℕ) : Type 0 where
  pub only : OnlyContainer l p
  pub low : p ≤ from
  pub high : from ≤ length l
  pub unjoined : (i j : ℕ) → i < j → i < from → j < length l → (i ≡ p → ⊥) → (j ≡ p → ⊥) → joins l i j ≡ false

-- None is contained in another before the given one.
pub record UncontainedBefore (l : List Rect) (from : ℕ) : Type 0 where
  pub high : from ≤ length l
  pub uncontained : (k : ℕ) → k < from → contained l k ≡ false

-- None is contained in another, and before the given one none is joinable with a later one.
pub record UnjoinedBefore (l : List Rect) (from : ℕ) : Type 0 where
  pub high : from ≤ length l
  pub none_contained : length l ≤ first_contained l
  pub unjoined : (k : ℕ) → k < from → has_partner l k ≡ false

-- The next step joins the i-th and the j-th, and before the given one none is joinable with a later one but these two.
pub record NextPair (l : List Rect) (i j from : ℕ) : Type 0 where
  pub after : i < j
  pub inside : j < length l
  pub low : i ≤ from
  pub high : from ≤ length l
  pub none_contained : length l ≤ first_contained l
  pub first : i ≡ first_join l
  pub second : j ≡ partner l i
  pub unjoined : (x y : ℕ) → x < y → x < from → y < length l → (x ≡ i → ⊥) → (x ≡ j → ⊥) → (y ≡ i → ⊥) → (y ≡ j → ⊥)
      → joins l x y ≡ false

-- what is known where the search goes on
abbrev pub Known : List Rect → Search → Type 0
Known l (Contained from) = UncontainedBefore l from
Known l (Union p from) = AfterJoin l p from

-- A step of refine on n rectangles shortened the list by one, and the search goes on there.
pub record Shortened (m : List ℕ) (n : ℕ) (s : Search) (m' : List ℕ) : Type 0 where
  pub some : 0 < n
  pub list : rects_in m' (n - 1) ≡ refine_step (rects_in m n)
  pub known : Known (rects_in m' (n - 1)) s
  pub same_length : length m' ≡ length m

-- No step applies to n rectangles, and the numbers stayed.
pub record Finished (m : List ℕ) (n : ℕ) (m' : List ℕ) : Type 0 where
  pub none_applies : refine_step (rects_in m n) ≡ rects_in m n
  pub same : m' ≡ m

-- what a step did: one rectangle less, and where the search goes on; or none applies
abbrev pub Stepped : List ℕ → ℕ → Option Search → List ℕ → Type 0
Stepped m n (Some s) m' = Shortened m n s m'
Stepped m n None m' = Finished m n m'
