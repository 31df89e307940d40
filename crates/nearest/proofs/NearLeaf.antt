-- The loop over a leaf's entries.
use mathlib.Core.Path.{◌≡◌, refl, sym, ap, ◌∙◌, subst}
use mathlib.Core.Bool.{true}
use mathlib.Core.List.{List, ◌∷◌}
use mathlib.Core.Option.{Option}
use Rattle.geometry.specs.declared.rect.Cell.{Cell}
use Rattle.geometry.specs.Cells.{on_grid}
use Rattle.tree.specs.Lists.{All}
use Rattle.plane.specs.Lines.{CellEntry, OnGrid}
use Rattle.layout.specs.declared.entry.Entry.{Entry}
use Rattle.layout.specs.Entries.{tree_entry}
use Rattle.nearest.specs.declared.near.Near.{Near}
use Rattle.nearest.specs.Near.{near_by, best_of, one_more, nearest_among, GoodNear}
use Rattle.nearest.proofs.NearMet.{candidate_back, good_near}

-- Before the entries that are left: with them, the nearest so far becomes what it is with all of them from the start.
pub record LeafNear (c : Cell) (met : Near) (all : List CellEntry) (best : Near) (left : List CellEntry) : Type 0 where
  pub good : GoodNear c best
  pub grid : OnGrid left
  pub whole : near_by c (nearest_among c (best_of best) left) best.visits
      ≡ near_by c (nearest_among c (best_of met) all) met.visits

module _ (c : Cell) (met : Near) (all : List CellEntry) (best : Near) (left : List CellEntry) (x : LeafNear c met all best left)
    (e : Entry) (others : List CellEntry) (q : left ≡ tree_entry e ∷ others) where
  pub leaf_grid : on_grid e.cell ≡ true
  unfolding All
  leaf_grid = (subst OnGrid q x.grid).0

  pub leaf_next : (next : Near) → next ≡ near_by c (one_more c (best_of best) (tree_entry e)) best.visits
      → LeafNear c met all next others
  unfolding All
  leaf_next next n = rw n (record {
    good = good_near c _ _ best.visits refl;
    grid = (subst OnGrid q x.grid).1;
    whole =
        ap (λ (o : Option CellEntry). near_by c (nearest_among c o others) best.visits) (candidate_back c _)
        ∙ ap (λ (es : List CellEntry). near_by c (nearest_among c (best_of best) es) best.visits) (sym q) ∙ x.whole;
  })
