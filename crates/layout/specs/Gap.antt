-- What taking an item out of a node's part gives: 'takes the entry out, closes the gap'.
use Rattle.std.specs.Prelude.{ℕ, ◌+◌, ◌-◌, ◌≤◌, ◌<◌, true, List, ◌++◌, ◌⊎◌, ◌≡◌, length, get_or, take, drop}
use Rattle.memory.specs.Layout.{rect_count, item_count, polygon_in, entries_in, children_in, rest_zero}
use Rattle.layout.specs.Nodes.{NodePart}

-- a list without its i-th element
abbrev pub without_at : {A : Type 0} → ℕ → List A → List A
without_at i l = take i l ++ drop (i + 1) l

-- Each number of p from `from` to before `end` got the value that stood w places behind it, which gives p'.
pub record MovedDown (w from end : ℕ) (p p' : List ℕ) : Type 0 where
  pub same_length : length p' ≡ length p
  pub outside : (x : ℕ) → (x < from) ⊎ (end ≤ x) → get_or p' x 0 ≡ get_or p x 0
  pub inside : (x : ℕ) → from ≤ x → x < end → get_or p' x 0 ≡ get_or p (x + w) 0

-- A node's part has an i-th item.
pub record ItemIn (i : ℕ) (p : List ℕ) : Type 0 where
  pub node : NodePart p
  pub inside : i < item_count p

-- A part with one item less, of w numbers: the polygon stays, and so do the zeros of unused numbers.
pub record ItemDropped (w : ℕ) (p p' : List ℕ) : Type 0 where
  pub same_length : length p' ≡ length p
  pub rects : rect_count p' ≡ rect_count p
  pub polygon : polygon_in p' ≡ polygon_in p
  pub count : item_count p' ≡ item_count p - 1
  pub rest : rest_zero w p ≡ true → rest_zero w p' ≡ true

-- A leaf's part without its i-th entry.
pub record EntryDropped (i : ℕ) (p p' : List ℕ) : Type 0 where
  pub item : ItemDropped 3 p p'
  pub entries : entries_in p' (item_count p') ≡ without_at i (entries_in p (item_count p))

-- A routing node's part without its i-th branch.
pub record BranchDropped (i : ℕ) (p p' : List ℕ) : Type 0 where
  pub item : ItemDropped 1 p p'
  pub children : children_in p' ≡ without_at i (children_in p)
