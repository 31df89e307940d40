-- The first entry of an index: a leaf with its cell alone.
use Prim.Native.Nat.{ℕ, ◌+◌, ◌*◌, ◌≤◌, ◌<◌}
use mathlib.Core.Bool.{Bool, true, cond}
use mathlib.Core.Path.{◌≡◌, refl, sym, ap, ◌∙◌}
use mathlib.Core.List.{List, [], ◌∷◌, ◌++◌, flat_map, append-nil}
use mathlib.Core.Option.{none, some}
use native.Mathlib.Omega.{arith}
use mir.Syntax.{w32}
use mir.Val.{Fits}
use borrow.Author.Tests.{le-leb}
use lib.ListN.{length, take}
use Rattle.polygons.specs.Lists.{any}
use Rattle.geometry.specs.declared.rect.Cell.{Cell}
use Rattle.geometry.specs.declared.rect.Rect.{Rect}
use Rattle.geometry.specs.declared.polygon.Polygon.{Polygon}
use Rattle.geometry.specs.Cells.{on_grid}
use Rattle.geometry.specs.Numbers.{rects_of, PolygonOf}
use Rattle.geometry.proofs.CellLaws.{grid_of}
use Rattle.tree.specs.Nodes.{held, nodes}
use Rattle.tree.specs.Lists.{total}
use Rattle.tree.specs.Tree.{Tree, top, node_count, SoundTree}
use Rattle.tree.specs.Removed.{removed_total}
use Rattle.tree.specs.Insert.{refused, accepted, limited, insert_tree}
use Rattle.tree.proofs.Insert.{insert_sound}
use Rattle.plane.specs.Lines.{CellEntry, Payload, entry_of}
use Rattle.plane.specs.Plane.{cell_rect}
use Rattle.plane.specs.Fanout.{fanout, index_space, index_root}
use Rattle.plane.proofs.Rects.{plane_space_laws}
use Rattle.plane.proofs.Steps.{plane_steps}
use Rattle.plane.proofs.Roots.{plane_root_laws}
use Rattle.memory.specs.Layout.{parts_of}
use Rattle.memory.specs.Reading.{reading}
use Rattle.memory.specs.Image.{node_part, write_node, image}
use Rattle.memory.proofs.ReadingLaws.{read_empty, IndexLength, index_length}
use Rattle.memory.proofs.SoundTested.{test_of_sound}
use Rattle.memory.proofs.ImageLaws.{image_reads, image_length}
use Rattle.layout.specs.declared.node.Node.{Node}
use Rattle.layout.specs.Loaded.{node_of, leaf_of, with_entry}
use Rattle.layout.specs.Parts.{PartPut, PartRoom}
use Rattle.layout.specs.Writing.{written}
use Rattle.layout.proofs.LoadedLaws.{no_entries, entry_more, leaf_part}
use Rattle.layout.proofs.WritingLaws.{written_image}
use Rattle.std.specs.Prelude.{Ok}
use Rattle.answers.specs.Answers.{insert_end, insert_read}
use Rattle.answers.specs.Changes.{inserted_index}
use Rattle.insertion.specs.Insert.{Built}

-- the corner of a cell's rectangle fits
pub x_room : (c : Cell) → on_grid c ≡ true → Fits w32 (c.x + 1)
x_room c grid = let a = (grid_of c grid).x_most in omega arith

pub y_room : (c : Cell) → on_grid c ≡ true → Fits w32 (c.y + 1)
y_room c grid = let a = (grid_of c grid).y_most in omega arith

-- an empty index has room for a part
pub first_long : (m : List ℕ) → reading fanout m ≡ some none → 64 + 128 * 1 ≤ length m
first_long m empty =
    let r = index_length m (read_empty fanout m empty).0 in
    let a = r.length_is in let b = r.some_parts in
    omega arith

pub first_room : (m w : List ℕ) → reading fanout m ≡ some none → length w ≡ length m → PartRoom w 0
first_room m w empty long =
    let r = index_length m (read_empty fanout m empty).0 in
    let a = r.length_is in let b = r.some_parts in let d = r.few_parts in
    record { fits = omega arith; small = omega arith }

module _ (m w : List ℕ) (c : Cell) (t : Payload) (empty : reading fanout m ≡ some none) (long : length w ≡ length m) (grid : on_grid c ≡ true) where
  abbrev e : CellEntry
  e = entry_of c t

  right : IndexLength m
  right = index_length m (read_empty fanout m empty).0

  abbrev N : ℕ
  N = parts_of m

  abbrev y : Tree index_space
  y = record { level = 0; root = cell_rect c ∷ []; items = e ∷ [] }

  gives : insert_tree index_space index_root none e ≡ some y
  unfolding insert_tree
  gives = refl

  one_node : node_count index_space (some y) ≡ 1
  unfolding total nodes
  one_node = refl

  outcome : limited index_space N (insert_tree index_space index_root none e) ≡ accepted (some y)
  outcome = let b = right.some_parts in let d = one_node in ap (limited index_space N) gives ∙ ap (λ (z : Bool). cond z (accepted (some y)) (refused 8)) (le-leb (node_count index_space (some y)) N (omega arith))

  sound_y : SoundTree index_space index_root y
  sound_y = insert_sound index_space (plane_space_laws fanout) (plane_steps fanout (omega arith)) index_root (plane_root_laws fanout) (omega arith) none e y gives tt grid (unfold any flat_map in refl)

  module _ (p : Polygon) (r : Rect) (leaf : Node) (w' : List ℕ) (h : PolygonOf (r ∷ []) p) (g : r ≡ cell_rect c) (i : leaf ≡ leaf_of (e ∷ []))
      (put : PartPut w 0 (node_part (rects_of p) leaf.count leaf.items) w') where
    parts_is : node_part (rects_of p) leaf.count leaf.items ∷ [] ≡ write_node fanout 0 0 (top index_space y)
    unfolding write_node
    parts_is = rw (h.list, g, i, leaf_part (cell_rect c ∷ []) (e ∷ []))

    written_is : take (64 + 128 * 1) w' ≡ take 64 w ++ flat_map (λ p. p) (write_node fanout 0 0 (top index_space y))
    written_is = put.written ∙ ap (λ (l : List ℕ). take 64 w ++ l) (sym (one (node_part (rects_of p) leaf.count leaf.items))) ∙ ap (λ (l : List (List ℕ)). take 64 w ++ flat_map (λ p. p) l) parts_is
      where
        one : (l : List ℕ) → flat_map (λ p. p) (l ∷ []) ≡ l
        one l = unfold flat_map in append-nil l

    image_is : written (length m) 1 1 w' ≡ image fanout N y
    unfolding image
    image_is =
        let a = right.length_is in
        let b = right.some_parts in
        let d = put.same_length in
        ap (λ (j : ℕ). written j 1 1 w') a ∙ written_image N 1 (write_node fanout 0 0 (top index_space y)) w w' 1 (ap length (sym parts_is)) (omega arith) (omega arith) written_is

    count_y : nodes index_space 1 (top index_space y) ≡ 1
    unfolding total nodes
    count_y = refl

    pub first_built : (m' : List ℕ) → m' ≡ written (length m) 1 1 w' → Built m w e m' w' (Ok (record { held = 1; removed = 0 }))
    unfolding insert_end insert_read inserted_index removed_total any flat_map held
    first_built m' q =
        let tested = test_of_sound fanout y sound_y in
        let b = right.some_parts in
        let n : nodes index_space 1 (top index_space y) ≤ N = let d = count_y in omega arith in
        let im = q ∙ image_is in
        record {
          answer = sym (rw (empty, outcome));
          memory = ap (reading fanout) im ∙ image_reads fanout N y (omega arith) b right.few_parts n tested ∙ sym (rw (empty, outcome));
          memory_length = ap length im ∙ image_length fanout N y (omega arith) b right.few_parts n tested ∙ sym right.length_is;
          work_length = put.same_length;
          zeroed = refl;
        }

-- the same as the code has it: the rectangle in place, and the entry put into a leaf without entries
pub first_done : (m w : List ℕ) (c : Cell) (t : Payload) (empty leaf : Node) (p : Polygon) (w' m' : List ℕ) → reading fanout m ≡ some none → length w ≡ length m → on_grid c ≡ true
    → empty ≡ node_of 0 [] → leaf ≡ with_entry empty (entry_of c t)
    → PolygonOf (record { llx = c.x; lly = c.y; urx = c.x + 1; ury = c.y + 1 } ∷ []) p → PartPut w 0 (node_part (rects_of p) leaf.count leaf.items) w'
    → m' ≡ written (length m) 1 1 w' → Built m w (entry_of c t) m' w' (Ok (record { held = 1; removed = 0 }))
unfolding cell_rect
first_done m w c t empty leaf p w' m' fresh long grid n i h put q =
    let one : leaf ≡ leaf_of (entry_of c t ∷ []) = i ∙ ap (λ (l : Node). with_entry l (entry_of c t)) (n ∙ no_entries) ∙ entry_more [] (entry_of c t) (omega arith) in
    first_built m w c t fresh long grid p (record { llx = c.x; lly = c.y; urx = c.x + 1; ury = c.y + 1 }) leaf w' h refl one put m' q

-- an empty node has room
pub empty_room : (empty : Node) → empty ≡ node_of 0 [] → empty.count < 9
unfolding node_of
empty_room empty n = rw n (omega arith)
