-- The test for 'Sound' on a tree that was read: each clause of Sound as a test. The theorems sound_tested and
-- test_of_sound say that it passes exactly where the tree is sound.
-- docs/RULES.md 2.6, 3.7, 3.15
use Rattle.std.specs.Prelude.{ℕ, zero, suc, Bool, ◌&&◌, not, List, leb, eqb, length}
use Rattle.polygons.specs.Limits.{most_of_polygon}
use Rattle.geometry.specs.declared.rect.Rect.{Rect}
use Rattle.geometry.specs.Cells.{any_has, all_valid}
use Rattle.cover.specs.Tests.{all_pass, pairs_pass, inside_of, apart}
use Rattle.tree.specs.Nodes.{Item}
use Rattle.tree.specs.Tree.{Tree}
use Rattle.plane.specs.Plane.{plane_space}

-- '1 to 16 rectangles', all valid
unfoldable pub polygon_fits : List Rect → Bool
polygon_fits p = leb 1 (length p) && leb (length p) most_of_polygon && all_valid p

module _ (fanout : ℕ) where
  -- '1 to 8' entries or branches (8 is the fanout)
  unfoldable pub count_test : {A : Type 0} → List A → Bool
  count_test l = leb 1 (length l) && leb (length l) fanout

  -- two items of one node: 'siblings share no cell', and 'no cell has two entries'
  unfoldable pub apart_test : (n : ℕ) → Item (plane_space fanout) n → Item (plane_space fanout) n → Bool
  apart_test zero e f = not ((plane_space fanout).same e.cell f.cell)
  apart_test (suc n) b c = apart b.poly c.poly

  -- an item of a node with the polygon p: 'a leaf's polygon contains its entries'; 'a child's cells lie among its
  -- parent's'
  unfoldable pub item_test : (n : ℕ) → List Rect → Item (plane_space fanout) n → Bool
  item_test zero p e = any_has p e.cell
  item_test (suc n) p b =
      inside_of p b.poly && polygon_fits b.poly && count_test b.child && all_pass (item_test n b.poly) b.child
      && pairs_pass (apart_test n) b.child

  -- the whole tree: 'The root's polygon is one rectangle'
  unfoldable pub sound_test : Tree (plane_space fanout) → Bool
  sound_test t =
      eqb (length t.root) 1 && all_valid t.root && count_test t.items
      && all_pass (item_test t.level t.root) t.items
      && pairs_pass (apart_test t.level) t.items
