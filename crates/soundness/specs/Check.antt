-- The soundness test as the code takes it: a node with all below it.
use Rattle.std.specs.Prelude.{ℕ, suc, ◌<◌, Bool, ◌&&◌, cond, List, length, get_or, Some, None}
use Rattle.std.specs.Prelude as S
use Rattle.std.proofs.Math.Option.{Option, none, some}
use Rattle.cover.specs.Tests.{all_pass, pairs_pass, apart}
use Rattle.tree.specs.Nodes.{Item, nodes}
use Rattle.plane.specs.Fanout.{fanout, index_space}
use Rattle.memory.specs.Layout.{part, polygon_in}
use Rattle.memory.specs.SoundTest.{polygon_fits, count_test, apart_test, item_test}
use Rattle.memory.specs.Reading.{read_node}
use Rattle.layout.specs.Nodes.{PolygonPart}

-- a node is sound in itself, all below it included
unfoldable pub node_test : (n : ℕ) → Item index_space (suc n) → Bool
node_test n b =
    polygon_fits b.poly && count_test fanout b.child && all_pass (item_test fanout n b.poly) b.child
    && pairs_pass (apart_test fanout n) b.child

-- the number of nodes of a subtree that was read and is sound in itself
unfoldable pub checked : (n : ℕ) → Option (Item index_space (suc n)) → S.Option ℕ
checked n none = None
checked n (some b) = cond (node_test n b) (Some (nodes index_space (suc n) b)) None

-- the same of the subtree at part k of a memory, whose parts are those from lo on
unfoldable pub checked_at : ℕ → List ℕ → ℕ → ℕ → S.Option ℕ
checked_at n m lo k = checked n (read_node fanout n m lo k)

-- the polygons at two parts share no cell
unfoldable pub parts_apart : List ℕ → ℕ → ℕ → Bool
parts_apart m i j = apart (polygon_in (part m i)) (polygon_in (part m j))

-- each of some parts is one of the memory's, and its polygon has at most 16 rectangles
pub record PolygonParts (m : List ℕ) (ks : List ℕ) : Type 0 where
  pub each : (i : ℕ) → i < length ks → PolygonPart m (get_or ks i 0)
