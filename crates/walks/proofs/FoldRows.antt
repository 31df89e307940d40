-- A walk that carries what it has met along is a left fold over a node's children: here over a row of children by their
-- parts, child by child, for any step and whatever is carried.
use Prim.Native.Nat.{ℕ, suc, ◌+◌}
use mathlib.Core.Path.{◌≡◌, refl, sym, ap, ◌∙◌}
use mathlib.Core.List.{List, [], ◌∷◌, foldl}
use mathlib.Core.Option.{Option, none, some}
use Rattle.tree.specs.Nodes.{Item}
use Rattle.plane.specs.Fanout.{fanout, index_space}
use Rattle.memory.specs.Layout.{part, polygon_in}
use Rattle.memory.specs.Reading.{read_row, read_node}
use Rattle.memory.proofs.ReadingLaws.{row_parts}
use Rattle.layout.proofs.ReadNodes.{node_polygon}
use Rattle.walks.proofs.WalkRows.{RowWalkable}

module _ {U : Type 0} (n : ℕ) (f : U → Item index_space (suc n) → U) where
  -- a row of children that was read; where none was, nothing is met
  unfoldable pub row_fold : U → Option (List (Item index_space (suc n))) → U
  row_fold u none = u
  row_fold u (some bs) = foldl f u bs

  -- a row of children by their parts
  unfoldable pub fold_row : List ℕ → ℕ → ℕ → List ℕ → U → U
  fold_row m lo hi ks u = row_fold u (read_row (read_node fanout n m) lo hi ks)

  pub fold_none : (m : List ℕ) (lo hi : ℕ) (u : U) → fold_row m lo hi [] u ≡ u
  unfolding fold_row row_fold read_row
  fold_none m lo hi u = refl

  -- The first child of a row, at part j, and the fold over it and the others.
  pub record FirstFolded (m : List ℕ) (lo hi j : ℕ) (ks : List ℕ) : Type 0 where
    pub child : Item index_space (suc n)
    pub reads : read_node fanout n m lo j ≡ some child
    pub polygon : child.poly ≡ polygon_in (part m j)
    pub folds : (u : U) → fold_row m lo hi (j ∷ ks) u ≡ fold_row m (j + 1) hi ks (f u child)

  pub fold_first : (m : List ℕ) (lo hi j : ℕ) (ks : List ℕ) → RowWalkable n m lo hi (j ∷ ks) → FirstFolded m lo hi j ks
  unfolding fold_row row_fold
  fold_first m lo hi j ks v =
      let r = row_parts (read_node fanout n m) lo hi j ks v.row v.reads in
      let e : read_row (read_node fanout n m) lo hi (j ∷ ks) ≡ some (r.first ∷ r.others)
      = v.reads ∙ ap some (sym r.whole) in
      record {
        child = r.first;
        reads = r.head;
        polygon = node_polygon n m lo j r.first r.head;
        folds = λ u. rw (e, r.tail);
      }
