-- The whole tree written into a work area.
use Rattle.std.specs.Prelude.{ℕ, suc, ◌+◌, ◌*◌, ◌≤◌, ◌≡◌, length, take}
use mathlib.Core.List.{List, ◌++◌, flat_map}
use Rattle.std.proofs.Math.Option.{some}
use Rattle.tree.specs.Tree.{Tree, top, node_count}
use Rattle.plane.specs.Fanout.{fanout, index_space}
use Rattle.memory.specs.Image.{write_node}
use Rattle.tree_after.specs.declared.on_path.Written.{Written}

-- The nodes of a tree fit into the work area.
pub record TreeRoom (w : List ℕ) (t : Tree index_space) : Type 0 where
  pub fits : 64 + 128 * node_count index_space (some t) ≤ length w
  pub small : length w ≤ 32832

-- The nodes of a tree were written to w, which gives w'.
pub record TreeWritten (w : List ℕ) (t : Tree index_space) (w' : List ℕ) (r : Written) : Type 0 where
  pub parts_is : r.parts ≡ node_count index_space (some t)
  pub height_is : r.height ≡ suc t.level
  -- the parts behind the first 64 numbers, which are as they were
  pub written : take (64 + 128 * r.parts) w' ≡ take 64 w
      ++ flat_map (λ p. p) (write_node fanout t.level 0 (top index_space t))
  pub same_length : length w' ≡ length w
