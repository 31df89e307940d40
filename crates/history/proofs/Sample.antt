-- Document 01's sample for the line program, from the definitions: its nine commands get the numbers and values that its output lines print
-- (of a window query the matches and visits; the entries that it lists are not among them).
use mathlib.Core.List.{List, [], ◌∷◌, flat_map}
use mathlib.Core.Option.{none, bind}
use mathlib.Core.Path.{◌≡◌, refl}
use Rattle.polygons.specs.Lists.{any}
use Rattle.geometry.specs.Cells.{on_grid, valid, has_cell, non_empty, cell_of, rect_of}
use Rattle.geometry.specs.Common.{overlap, shares_with}
use Rattle.geometry.specs.Grow.{grown}
use Rattle.distance.specs.Distance.{gap, squared}
use Rattle.tree.specs.Lists.{keep, total}
use Rattle.tree.specs.Boxes.{any_has}
use Rattle.tree.specs.Nodes.{held, nodes}
use Rattle.tree.specs.Split.{split}
use Rattle.tree.specs.Depth.{item_polygons}
use Rattle.tree.specs.Insert.{insert_at, insert_tree}
use Rattle.tree.specs.Removed.{removed_at, removed_total}
use Rattle.tree.specs.Nearest.{or_nearer, walk_node}
use Rattle.tree.specs.Emptiness.{node_to_match}
use Rattle.tree.specs.Order.{comes_before}
use Rattle.tree.specs.Remove.{prune}
use Rattle.tree.specs.Calls.{insert_call, remove_call, clear_call, point_call, window_call, nearest_call, empty_call, answer, after}
use Rattle.plane.specs.Plane.{cell_rect}
use Rattle.plane.specs.Windows.{meets}
use Rattle.plane.specs.Lines.{entry_of}
use Rattle.plane.specs.Fanout.{PlaneIndex}
use Rattle.answers.specs.Numbers.{refusal, accepts}
use Rattle.answers.specs.declared.reply.Reply.{Reply}
use Rattle.history.specs.Calls.{IndexCall}
use Rattle.history.specs.Defined.{early, reply_of, reply_on, index_after}

-- the answers to a list of calls on an index of 64 parts, each lent a list as long as the index
unfoldable pub all_replies : PlaneIndex → List IndexCall → List Reply
all_replies i [] = []
all_replies i (k ∷ ks) = reply_on 64 i k 8256 ∷ all_replies (index_after 64 i k 8256) ks

abbrev pub sample_input : List IndexCall
sample_input =
    insert_call (entry_of (cell_of 10 10) 7)
    ∷ insert_call (entry_of (cell_of 20 12) 9)
    ∷ point_call (cell_of 20 12)
    ∷ point_call (cell_of 15 11)
    ∷ insert_call (entry_of (cell_of 10 10) 8)
    ∷ window_call (rect_of 10 10 20 13)
    ∷ remove_call (cell_of 10 10)
    ∷ clear_call
    ∷ point_call (cell_of 20 12)
    ∷ []

pub sample : all_replies none sample_input
    ≡ accepts (1 ∷ 0 ∷ [])
    ∷ accepts (2 ∷ 0 ∷ [])
    ∷ accepts (1 ∷ 1 ∷ 9 ∷ [])
    ∷ accepts (0 ∷ 1 ∷ [])
    ∷ refusal 5
    ∷ accepts (1 ∷ 1 ∷ [])
    ∷ accepts (1 ∷ [])
    ∷ accepts (0 ∷ [])
    ∷ accepts (0 ∷ 0 ∷ [])
    ∷ []
unfolding all_replies reply_on index_after early reply_of answer after on_grid any insert_tree removed_total removed_at total nodes flat_map held bind insert_at split keep valid item_polygons has_cell prune any_has meets grown shares_with cell_rect non_empty overlap
sample = refl

-- Nearest queries between its first two entries: nothing is held, the nearer one, a tie that goes to the smaller x, the entry itself.
abbrev pub nearest_input : List IndexCall
nearest_input =
    nearest_call (cell_of 15 11)
    ∷ insert_call (entry_of (cell_of 20 12) 9)
    ∷ insert_call (entry_of (cell_of 10 10) 7)
    ∷ nearest_call (cell_of 16 10)
    ∷ nearest_call (cell_of 15 11)
    ∷ nearest_call (cell_of 10 10)
    ∷ []

pub nearest_sample : all_replies none nearest_input
    ≡ refusal 10
    ∷ accepts (1 ∷ 0 ∷ [])
    ∷ accepts (2 ∷ 0 ∷ [])
    ∷ accepts (20 ∷ 12 ∷ 9 ∷ 20 ∷ 1 ∷ [])
    ∷ accepts (10 ∷ 10 ∷ 7 ∷ 26 ∷ 1 ∷ [])
    ∷ accepts (10 ∷ 10 ∷ 7 ∷ 0 ∷ 1 ∷ [])
    ∷ []
unfolding all_replies reply_on index_after early reply_of answer after on_grid any insert_tree removed_total removed_at total nodes flat_map held bind insert_at split keep has_cell any_has grown shares_with cell_rect non_empty overlap or_nearer walk_node comes_before gap squared
nearest_sample = refl

-- Emptiness queries on the same two entries: nothing is held, a window with an entry, one between the entries, one beside
-- the root's polygon, one without cells.
abbrev pub emptiness_input : List IndexCall
emptiness_input =
    empty_call (rect_of 0 0 65536 65536)
    ∷ insert_call (entry_of (cell_of 10 10) 7)
    ∷ insert_call (entry_of (cell_of 20 12) 9)
    ∷ empty_call (rect_of 10 10 20 13)
    ∷ empty_call (rect_of 11 10 20 13)
    ∷ empty_call (rect_of 0 0 10 10)
    ∷ empty_call (rect_of 10 10 10 13)
    ∷ []

pub emptiness_sample : all_replies none emptiness_input
    ≡ accepts (1 ∷ 0 ∷ [])
    ∷ accepts (1 ∷ 0 ∷ [])
    ∷ accepts (2 ∷ 0 ∷ [])
    ∷ accepts (0 ∷ 1 ∷ [])
    ∷ accepts (1 ∷ 1 ∷ [])
    ∷ accepts (1 ∷ 0 ∷ [])
    ∷ refusal 3
    ∷ []
unfolding all_replies reply_on index_after early reply_of answer after on_grid any insert_tree removed_total removed_at total nodes flat_map held bind insert_at split keep valid has_cell any_has meets grown shares_with cell_rect non_empty overlap node_to_match
emptiness_sample = refl
