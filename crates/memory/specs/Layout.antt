-- Document 01, 'Memory is a list of 32-bit numbers': where each number stands. docs/LAYOUT.md has the same as a table.
-- docs/RULES.md 3.9 to 3.11, 3.14, 3.15, 7.2
use Rattle.std.specs.Prelude.{ℕ, zero, suc, ◌+◌, ◌*◌, ◌-◌, ◌/◌, ◌%◌, ◌^◌, Bool, true, ◌&&◌, ◌||◌, List, [], ◌∷◌, ◌++◌, leb, ltb, eqb, length, take, drop, get_or}
use Rattle.std.specs.Int.Count.{ones}
use Rattle.polygons.specs.Limits.{most_of_polygon}
use Rattle.geometry.specs.declared.rect.Rect.{Rect}
use Rattle.geometry.specs.Numbers.{rects_in}
use Rattle.plane.specs.Lines.{CellEntry}

-- '64 numbers, then N parts of 128 numbers each'
abbrev pub parts_of : List ℕ → ℕ
parts_of m = (length m - 64) / 128

-- 'N from 1 to 256': the length is 64 + 128 × N for such an N
unfoldable pub is_index_length : List ℕ → Bool
is_index_length m = eqb (length m) (64 + 128 * parts_of m) && leb 1 (parts_of m) && leb (parts_of m) 256

-- the k-th part
unfoldable pub part : List ℕ → ℕ → List ℕ
part m k = take 128 (drop (64 + 128 * k) m)

-- 'The first eight of the 64 hold one bit for each part in use': part k is bit k mod 32 of number k div 32
unfoldable pub in_use : List ℕ → ℕ → Bool
in_use m k = eqb (get_or m (k / 32) 0 / 2 ^ (k % 32) % 2) 1

-- how many bits of some numbers are set
unfoldable pub ones_of : List ℕ → ℕ
ones_of [] = 0
ones_of (w ∷ ws) = ones w + ones_of ws

-- 'the number of bits set'
abbrev pub bits_set : List ℕ → ℕ
bits_set m = ones_of (take 8 m)

-- number 8 is the height, number 9 the part of the root
abbrev pub height_in : List ℕ → ℕ
height_in m = get_or m 8 0

abbrev pub root_in : List ℕ → ℕ
root_in m = get_or m 9 0

-- every number is zero
unfoldable pub all_zero : List ℕ → Bool
all_zero [] = true
all_zero (a ∷ l) = eqb a 0 && all_zero l

-- A node's part: number 0 is the count of its polygon's rectangles, number 1 that of its entries or branches, from 2
-- on stand the rectangles, and from 66 on the entries (x, y, tag) of a leaf or the children's part numbers of a
-- routing node.
abbrev pub rect_count : List ℕ → ℕ
rect_count p = get_or p 0 0

abbrev pub item_count : List ℕ → ℕ
item_count p = get_or p 1 0

abbrev pub rect_numbers : List ℕ → List ℕ
rect_numbers p = drop 2 p

abbrev pub polygon_in : List ℕ → List Rect
polygon_in p = rects_in (rect_numbers p) (rect_count p)

-- the i-th entry of a leaf's part
unfoldable pub entry_in : List ℕ → ℕ → CellEntry
entry_in p i = record {
  cell = record { x = get_or p (66 + 3 * i) 0; y = get_or p (66 + 3 * i + 1) 0 };
  tag = get_or p (66 + 3 * i + 2) 0;
}

-- the first n entries of a leaf's part
unfoldable pub entries_in : List ℕ → ℕ → List CellEntry
entries_in p zero = []
entries_in p (suc n) = entries_in p n ++ (entry_in p n ∷ [])

-- the children of a routing node, by their part numbers
abbrev pub children_in : List ℕ → List ℕ
children_in p = take (item_count p) (drop 66 p)

-- 'Unused numbers are zero': of a part whose items take w numbers each
unfoldable pub rest_zero : ℕ → List ℕ → Bool
rest_zero w p = all_zero (take (64 - 4 * rect_count p) (drop (2 + 4 * rect_count p) p))
    && all_zero (drop (66 + w * item_count p) p)

-- the counts of a part: 'a list of 1 to 16 rectangles', '1 to 8 entries', '1 to 8 branches' (8 is the fanout)
unfoldable pub counts_fit : ℕ → List ℕ → Bool
counts_fit fanout p = leb 1 (rect_count p) && leb (rect_count p) most_of_polygon && leb 1 (item_count p)
    && leb (item_count p) fanout

-- the part k is one of the memory's, in use, and its counts and unused numbers are right
unfoldable pub node_fits : ℕ → ℕ → List ℕ → ℕ → Bool
node_fits fanout w m k = ltb k (parts_of m) && in_use m k && counts_fit fanout (part m k) && rest_zero w (part m k)

-- the first k parts are in use or all zero
unfoldable pub others_zero : List ℕ → ℕ → Bool
others_zero m zero = true
others_zero m (suc k) = others_zero m k && (in_use m k || all_zero (part m k))
