-- Demand 3, as one claim about a list of calls made one after another from a fresh memory.
-- docs/RULES.md 5.7, 6.3, 6.6 to 6.16, 6.19
use Rattle.std.specs.Prelude.{ℕ, suc, ◌≤◌, Bool, true, cond, List, [], ◌∷◌, ◌≡◌, length, get_or}
use Rattle.std.proofs.Math.Option.{Option, some}
use Rattle.geometry.specs.declared.rect.Cell.{Cell}
use Rattle.geometry.specs.declared.rect.Rect.{Rect}
use Rattle.distance.specs.Distance.{squared}
use Rattle.tree.specs.Lists.{All, count_of, Bag, nth}
use Rattle.tree.specs.Tree.{Sound, height, entries, node_count}
use Rattle.tree.specs.Depth.{polygons, polygons_at, leaves, leaf_depths, edges}
use Rattle.tree.specs.Query.{of_cell, holds}
use Rattle.tree.specs.Nearest.{IsNearest, walk}
use Rattle.tree.specs.Calls.{insert_call, remove_call, clear_call, point_call, window_call, nearest_call, empty_call}
use Rattle.tree.specs.Claim.{leaf_holds, leaf_covers}
use Rattle.plane.specs.Lines.{CellEntry}
use Rattle.plane.specs.Fanout.{fanout, index_space, index_root, PlaneIndex}
use Rattle.memory.specs.Reading.{reading}
use Rattle.answers.specs.declared.reply.Reply.{Reply}
use Rattle.history.specs.Calls.{IndexCall, Performed, accepted, is_change, fed, record_from}
use Rattle.history.specs.Defined.{AsDefined}
use Rattle.history.specs.Emptiness.{TellsEmpty}
use Rattle.history.specs.Removed.{RemovedBy}

-- the polygon has the cell
abbrev pub polygon_has : Cell → List Rect → Bool
polygon_has c p = index_space.has p c

-- A statement about each call of a list and the record after that call, where r is the record before the list.
unfoldable pub EachWith : (Performed → List CellEntry → Type 0) → List CellEntry → List Performed → Type 0
EachWith P r [] = Unit {0}
EachWith P r (d ∷ ds) =
    P d (fed r d.call (accepted d.reply)) × EachWith P (fed r d.call (accepted d.reply)) ds

-- the entries held that an accepted change reports: its first value, and the only one but for an insertion's total. A
-- change that reports nothing has none.
abbrev pub held_of : Reply → Option ℕ
held_of t = nth t.values 0

-- 'Wherever a call reports the number of entries held, that is the record's length after the call.' r is the record
-- after it.
abbrev pub Reports : Performed → List CellEntry → Type 0
Reports d r = accepted d.reply ≡ true → is_change d.call ≡ true → held_of d.reply ≡ some (length r)

-- the visits that an accepted point query reports: its second value
abbrev pub visits_of : Reply → ℕ
visits_of t = get_or t.values 1 0

-- On a memory that holds an index, these visits of a cell are 'exactly the number of nodes whose polygon has its cell,
-- and they are at most the height'.
pub record VisitsExact (m : List ℕ) (c : Cell) (visits : ℕ) : Type 0 where
  pub index : PlaneIndex
  pub reads : reading fanout m ≡ some index
  pub exact : visits ≡ count_of (polygon_has c) (polygons index_space index)
  pub few : visits ≤ height index_space index

-- so for a call, if it is an accepted point query
abbrev pub PointVisits : IndexCall → List ℕ → Reply → Type 0
PointVisits (insert_call e) m t = Unit {0}
PointVisits (remove_call c) m t = Unit {0}
PointVisits clear_call m t = Unit {0}
PointVisits (point_call c) m t = accepted t ≡ true → VisitsExact m c (visits_of t)
PointVisits (window_call w) m t = Unit {0}
PointVisits (nearest_call c) m t = Unit {0}
PointVisits (empty_call w) m t = Unit {0}

-- What a nearest query of c replied on a memory m that holds an index, where r are the entries held: 'The answer is the
-- entry, the squared distance and the number of nodes entered.'
pub record NearestExact (m : List ℕ) (c : Cell) (r : List CellEntry) (t : Reply) : Type 0 where
  pub entry : CellEntry
  pub visits : ℕ
  pub reply : t.values ≡ entry.cell.x ∷ entry.cell.y ∷ entry.tag ∷ squared c entry.cell ∷ visits ∷ []
  -- 'the entry nearest a given cell, by (dx)² + (dy)², ties to the smaller x, then the smaller y': one of r, and none
  -- of r is nearer
  pub nearest : IsNearest index_space c r entry
  pub index : PlaneIndex
  pub reads : reading fanout m ≡ some index
  -- 'Passing over may only save visits': the walk meets this entry
  pub met : (walk index_space c index).best ≡ some entry
  pub exact : visits ≡ (walk index_space c index).entered
  -- 'Visits are at most the number of nodes.'
  pub few : visits ≤ node_count index_space index

-- so for a call with the record after it, if it is an accepted nearest query: it leaves the record alone
abbrev pub NearestBy : IndexCall → List ℕ → Reply → List CellEntry → Type 0
NearestBy (insert_call e) m t r = Unit {0}
NearestBy (remove_call c) m t r = Unit {0}
NearestBy clear_call m t r = Unit {0}
NearestBy (point_call c) m t r = Unit {0}
NearestBy (window_call w) m t r = Unit {0}
NearestBy (nearest_call c) m t r = accepted t ≡ true → NearestExact m c r t
NearestBy (empty_call w) m t r = Unit {0}

abbrev pub TellsNearest : Performed → List CellEntry → Type 0
TellsNearest d r = NearestBy d.call d.before d.reply r

-- The claim about the list ds of calls from a fresh memory of N parts, which left the memory m.
pub record HistoryClaim (N : ℕ) (ds : List Performed) (m : List ℕ) : Type 0 where
  -- "Every call in it accepts, refuses and answers as document 01 defines"
  pub answers : All (AsDefined N) ds
  -- "after every such list": the index that the memory holds then, a sound one of at most N nodes
  pub index : PlaneIndex
  pub reads : reading fanout m ≡ some index
  pub sound : Sound index_space index_root index
  pub room : node_count index_space index ≤ N
  -- "no cell lies in the polygons of two different nodes of equal depth": at the depth d, by their places j and k
  pub separate : (d j k : ℕ) (p q : List Rect) (c : Cell)
      → nth (polygons_at index_space d index) j ≡ some p → nth (polygons_at index_space d index) k ≡ some q
      → polygon_has c p ≡ true → polygon_has c q ≡ true → j ≡ k
  -- "every child stays within its parent"
  pub within : All (λ e. (c : Cell) → polygon_has c e.below ≡ true → polygon_has c e.parent ≡ true)
      (edges index_space index)
  -- "and all leaves are equally deep"
  pub deep : All (λ k. suc k ≡ height index_space index) (leaf_depths index_space index)
  -- "The entries held are exactly those accepted since the last clear and not removed since, as document 01's record
  -- gives them.": as many pass any test in the tree as in the record, and no cell is held twice
  pub entries_same : Bag (entries index_space index) (record_from [] ds)
  pub entries_once : (c : Cell) → count_of (of_cell index_space c) (entries index_space index)
      ≡ cond (holds index_space c index) 1 0
  -- "Each is in exactly one leaf"
  pub one_leaf : (c : Cell) → count_of (leaf_holds index_space c) (leaves index_space index)
      ≡ cond (holds index_space c index) 1 0
  -- "and the polygon of that leaf has its cell."
  pub covers : All (leaf_covers index_space) (leaves index_space index)
  -- "Wherever a call reports the number of entries held, that is the record's length after the call."
  pub reported : EachWith Reports [] ds
  -- "Every accepted point query, in such a list .., reports as visits exactly the number of nodes whose polygon has
  -- its cell, and they are at most the height."
  pub visits : All (λ d. PointVisits d.call d.before d.reply) ds
  -- Request A.6: an accepted insertion tells, behind the entries held, the total that siblings removed, by the
  -- definition
  pub removed : All (λ d. RemovedBy d.call d.before d.reply) ds
  -- Request A.1: an accepted nearest query tells an entry of the record at that call, none of the record is nearer, and
  -- 'Visits are at most the number of nodes.'
  pub nearest : EachWith TellsNearest [] ds
  -- Request A.11: an accepted emptiness query tells whether no entry of the record at that call is in the window, and
  -- its visits 'never exceed those of the window query'
  pub emptiness : EachWith TellsEmpty [] ds
