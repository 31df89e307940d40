-- The line of a routing node on the path whose child on the path is split: the entries that the code groups are those of the definition.
use Prim.Native.Nat.{ℕ, suc, ◌+◌, ◌<◌, ◌≤◌}
use mathlib.Core.Bool.{true, false}
use mathlib.Core.Path.{◌≡◌, sym, ap, ◌∙◌, subst}
use mathlib.Core.List.{List, [], ◌∷◌, ◌++◌, map, flat_map, append-nil, map-append}
use mathlib.Core.Option.{some}
use lib.ListN.{length, take, drop, length-append, length-take}
use lib.Seq.{drop_at}
use native.Mathlib.Omega.{arith}
use borrow.Author.Tests.{leb-false}
use Rattle.path.specs.declared.level.Level.{Level}
use Rattle.geometry.specs.declared.rect.Line.{Line}
use Rattle.geometry.specs.Cells.{on_grid}
use Rattle.tree.specs.Lists.{All, keep, Bag}
use Rattle.tree.specs.Space.{left, right}
use Rattle.tree.specs.Nodes.{Item, entry_on, held}
use Rattle.tree.specs.Split.{line_of, split}
use Rattle.tree.specs.Plan.{Way, descend, row, groups, few, line_at}
use Rattle.tree.specs.Pass.{way_held, Alike}
use Rattle.tree.proofs.Laws.{Laws, Steps, Fit, on_side}
use Rattle.tree.proofs.Fits.{length_half_items}
use Rattle.tree.proofs.OnePass.{groups_is, few_row, line_row}
use Rattle.tree.proofs.GoodWays.{GoodWay, way_fits}
use Rattle.tree.proofs.Ways.{Descent, descent, way_entries}
use Rattle.tree.proofs.Bags.{bag_keep, bag_length, bag_all}
use Rattle.tree.proofs.SplitGroups.{split_groups, row_entries_lem, alike_mid, alike_all}
use Rattle.plane.specs.Lines.{CellEntry, holds_on, node_line}
use Rattle.plane.specs.Fanout.{fanout, index_space}
use Rattle.plane.proofs.Rects.{plane_space_laws}
use Rattle.plane.proofs.Steps.{plane_steps, fits_of_fit}
use Rattle.plane.proofs.NodeLine.{Fits}
use Rattle.plane.proofs.Extents.{on_same, count_same, node_same}
use Rattle.memory.specs.Layout.{part, item_count, children_in}
use Rattle.memory.specs.Reading.{read_node}
use Rattle.memory.proofs.ReadingLaws.{node_parts_lem, row_length, children_length, node_below}
use Rattle.layout.specs.Nodes.{count_at}
use Rattle.walks.specs.Walks.{Walkable}
use Rattle.split_line.specs.Groups.{halves_of, groups_at, LineFits}
use Rattle.path.specs.Path.{part_on, place_on, polygon_on}
use Rattle.tree_after.specs.Path.{row_at, way_at}
use Rattle.tree_after.proofs.RowLaws.{row_of}
use Rattle.insertion.specs.Descent.{items_at}
use Rattle.insertion.proofs.DescentLaws.{items_are}

abbrev laws : Laws index_space
laws = plane_space_laws fanout

abbrev steps : Steps index_space
steps = plane_steps fanout (omega arith)

fits_same : (gs hs : List (List CellEntry)) (l : Line) → Alike index_space gs hs → Fits holds_on fanout hs l → Fits holds_on fanout gs l
fits_same gs hs l a f =
    let x = count_same fanout (holds_on (left l)) gs hs (on_same fanout (left l)) a in
    let y = count_same fanout (holds_on (right l)) gs hs (on_same fanout (right l)) a in
    let lo = f.lefts_some in let lf = f.lefts_few in let ro = f.rights_some in let rf = f.rights_few in
    record { lefts_some = omega arith; lefts_few = omega arith; rights_some = omega arith; rights_few = omega arith }

-- A routing node of the way, at part k, with the branches bs; the node below it on the path is split.
module _ (n : ℕ) (path : List Level) (m : List ℕ) (e : CellEntry) (v : Walkable (suc n) m 0 (part_on path (suc n)))
    (way : descend index_space (suc n) (polygon_on path (suc n)) (items_at (suc n) m (part_on path (suc n))) e ≡ some (way_at (suc n) path m e))
    (good : GoodWay index_space (suc n) (way_at (suc n) path m e)) where
  abbrev k : ℕ
  k = part_on path (suc n)

  abbrev place : ℕ
  place = place_on path (suc n)

  abbrev bs : List (Item index_space (suc n))
  bs = v.node.child

  abbrev w : Way index_space (suc n)
  w = way_at (suc n) path m e

  abbrev under : Way index_space n
  under = way_at n path m e

  d : Descent index_space n (polygon_on path (suc n)) (items_at (suc n) m k) e w
  d = descent index_space n (polygon_on path (suc n)) (items_at (suc n) m k) e w way

  bs_is : row_at n m k ≡ bs
  bs_is = row_of n m k v.node v.reads

  items_is : items_at (suc n) m k ≡ bs
  items_is = items_are (suc n) m k v.node v.reads

  before_is : d.ch.before ≡ take place bs
  unfolding way_at
  before_is = sym (ap (λ (y : Way index_space (suc n)). y.before) d.is) ∙ ap (take place) bs_is

  after_is : d.ch.after ≡ drop (place + 1) bs
  unfolding way_at
  after_is = sym (ap (λ (y : Way index_space (suc n)). y.after) d.is) ∙ ap (drop (place + 1)) bs_is

  under_is : d.under ≡ under
  unfolding way_at
  under_is = sym (ap (λ (y : Way index_space (suc n)). y.below) d.is)

  row_cut : bs ≡ take place bs ++ (d.ch.old ∷ d.ch.after)
  row_cut = sym items_is ∙ steps.chosen_row (polygon_on path (suc n)) (items_at (suc n) m k) e.cell d.ch d.chose ∙ ap (λ (l : List (Item index_space (suc n))). l ++ (d.ch.old ∷ d.ch.after)) before_is

  place_length : length (take place bs) ≡ place
  place_length =
      let a = ap length row_cut ∙ length-append (take place bs) (d.ch.old ∷ d.ch.after) in
      let b = length-take place bs in
      omega arith

  old_at : take 1 (drop place bs) ≡ d.ch.old ∷ []
  old_at = ap (take 1) (ap (drop place) row_cut ∙ drop_at (take place bs) (d.ch.old ∷ d.ch.after) place place_length)

  -- how many items the row has: those of the node, with what took the place of one
  pub row_length_is : length (row index_space (suc n) w) + 1 ≡ count_at m k + length (split index_space n (polygon_on path n) (row index_space n under))
  unfolding row way_at
  row_length_is =
      let x = split index_space n (polygon_on path n) (row index_space n under) in
      let a : length bs ≡ length (take place bs) + suc (length d.ch.after) = ap length row_cut ∙ length-append (take place bs) (d.ch.old ∷ d.ch.after) in
      let b = ap length after_is in
      let r = (node_parts_lem fanout n m 0 k v.node v.reads).row in
      let f : length bs ≡ length (children_in (part m k)) = row_length (read_node fanout n m) 0 k (children_in (part m k)) bs r in
      let i = v.few in
      let j : length (children_in (part m k)) ≡ item_count (part m k) = children_length fanout m k (node_below fanout m (suc n) 0 k v.node v.reads) (omega arith) in
      rw (bs_is, length-append (take place bs) (x ++ drop (place + 1) bs), length-append x (drop (place + 1) bs)) (omega arith)

  -- the entries of the branch at the place, with the new one
  abbrev es : List CellEntry
  es = flat_map (held index_space (suc n)) (take 1 (drop place bs)) ++ (e ∷ [])

  abbrev rows : List CellEntry
  rows = flat_map (held index_space n) (row index_space n under)

  es_is : es ≡ flat_map (held index_space n) d.ch.old.child ++ (e ∷ [])
  unfolding flat_map held
  es_is = ap (λ (l : List (Item index_space (suc n))). flat_map (held index_space (suc n)) l ++ (e ∷ [])) old_at
      ∙ ap (λ (l : List CellEntry). l ++ (e ∷ [])) (append-nil (flat_map (held index_space n) d.ch.old.child))

  es_bag : Bag es rows
  es_bag q =
      ap (λ (l : List CellEntry). length (keep q l)) es_is
      ∙ sym (way_entries index_space laws steps n d.ch.grown d.ch.old.child e d.under d.next q)
      ∙ ap (λ (y : Way index_space n). length (keep q (way_held index_space n y))) under_is
      ∙ sym (row_entries_lem index_space n under q)

  module _ (full : few index_space n under ≡ false) (l : Line) (line : l ≡ line_at index_space n under) where
    under_good : GoodWay index_space n under
    unfolding GoodWay way_at
    under_good = good.below

    over : fanout < length (row index_space n under)
    over = leb-false (length (row index_space n under)) fanout (sym (few_row index_space n under) ∙ full)

    line_is : line_of index_space n (row index_space n under) ≡ l
    line_is = sym (line ∙ line_row index_space n under)

    halves_are : map (held index_space (suc n)) (split index_space n (polygon_on path n) (row index_space n under))
        ≡ keep (entry_on index_space (left l)) rows ∷ keep (entry_on index_space (right l)) rows ∷ []
    halves_are =
        split_groups index_space n (polygon_on path n) (row index_space n under) over (way_fits index_space n under under_good over)
        ∙ ap (λ (z : Line). keep (entry_on index_space (left z)) rows ∷ keep (entry_on index_space (right z)) rows ∷ []) line_is

    -- the groups that the code makes
    abbrev gs : List (List CellEntry)
    gs = groups_at (suc n) m 0 k place l e

    gs_is : gs ≡ map (held index_space (suc n)) (take place bs) ++ (halves_of l es ++ map (held index_space (suc n)) (drop (place + 1) bs))
    unfolding groups_at
    gs_is = rw v.reads

    row_groups : groups index_space (suc n) w
        ≡ map (held index_space (suc n)) (take place bs) ++ (halves_of l rows ++ map (held index_space (suc n)) (drop (place + 1) bs))
    unfolding row way_at
    row_groups =
        groups_is index_space (suc n) w
        ∙ map-append (held index_space (suc n)) (take place (row_at n m k)) (split index_space n (polygon_on path n) (row index_space n under) ++ drop (place + 1) (row_at n m k))
        ∙ rw (map-append (held index_space (suc n)) (split index_space n (polygon_on path n) (row index_space n under)) (drop (place + 1) (row_at n m k)), halves_are, bs_is)

    alike : Alike index_space gs (groups index_space (suc n) w)
    alike =
        subst (λ (z : List (List CellEntry)). Alike index_space gs z) (sym row_groups)
        (subst (λ (z : List (List CellEntry)). Alike index_space z (map (held index_space (suc n)) (take place bs) ++ (halves_of l rows ++ map (held index_space (suc n)) (drop (place + 1) bs)))) (sym gs_is)
        (alike_mid index_space (map (held index_space (suc n)) (take place bs)) (map (held index_space (suc n)) (drop (place + 1) bs))
        (keep (entry_on index_space (left l)) es) (keep (entry_on index_space (right l)) es) (keep (entry_on index_space (left l)) rows) (keep (entry_on index_space (right l)) rows)
        (bag_keep (entry_on index_space (left l)) es rows es_bag) (bag_keep (entry_on index_space (right l)) es rows es_bag)))

    -- the line found from them is the definition's
    pub node_line_is : node_line fanout gs ≡ line_at index_space (suc n) w
    node_line_is = node_same fanout gs (groups index_space (suc n) w) alike

    -- and a line fits them where the node has one too many
    pub node_line_fits : fanout < length (row index_space (suc n) w) → LineFits gs
    unfolding GoodWay
    node_line_fits o =
        let f = way_fits index_space (suc n) w good o in
        let z = line_of index_space (suc n) (row index_space (suc n) w) in
        let g : Fit index_space (on_side index_space) z (map (held index_space (suc n)) (row index_space (suc n) w)) = record {
          lefts = rw (← length_half_items index_space (suc n) (left z) (row index_space (suc n) w)) f.lefts;
          rights = rw (← length_half_items index_space (suc n) (right z) (row index_space (suc n) w)) f.rights;
        } in
        let q = sym (groups_is index_space (suc n) w) in
        record {
          some_each = alike_all index_space (λ x. 1 ≤ length x) (λ x. 1 ≤ length x) (λ x y b h. let i = bag_length x y b in omega arith) gs (groups index_space (suc n) w) alike
              (subst (λ (y : List (List CellEntry)). All (λ x. 1 ≤ length x) y) q good.full);
          grid = alike_all index_space (λ x. All (λ i. on_grid i.cell ≡ true) x) (λ x. All (λ i. on_grid i.cell ≡ true) x) (λ x y b h. bag_all (λ i. on_grid i.cell) x y b h) gs (groups index_space (suc n) w) alike
              (subst (λ (y : List (List CellEntry)). All (λ x. All (λ i. on_grid i.cell ≡ true) x) y) q good.real);
          line = z;
          fits = fits_same gs (groups index_space (suc n) w) z alike (subst (λ (y : List (List CellEntry)). Fits holds_on fanout y z) q (fits_of_fit fanout (map (held index_space (suc n)) (row index_space (suc n) w)) z g));
        }
