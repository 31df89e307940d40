-- Demand 3 at the level of trees, as one statement about a whole list of calls from the empty index.
-- docs/RULES.md 5.16, 5.20, 6.12
use Rattle.std.specs.Prelude.{ℕ, suc, ◌≤◌, Bool, true, cond, List, [], ◌∷◌, map, ◌≡◌, eqb, length}
use Rattle.std.proofs.Math.Option.{none, some}
use Rattle.polygons.specs.Lists.{any}
use Rattle.tree.specs.Lists.{All, count_of, Bag, nth}
use Rattle.tree.specs.Space.{Space}
use Rattle.tree.specs.Nodes.{EntryOf, Item}
use Rattle.tree.specs.Root.{Root}
use Rattle.tree.specs.Tree.{Index, height, entries, node_count, Sound}
use Rattle.tree.specs.Depth.{polygons_at, leaves, leaf_depths, edges}
use Rattle.tree.specs.Query.{Window, of_cell, holds, visits, matches, window_visits}
use Rattle.tree.specs.Nearest.{IsNearest, nearest, walk}
use Rattle.tree.specs.Emptiness.{is_empty, empty_visits}
use Rattle.tree.specs.Calls.{Call, insert_call, remove_call, clear_call, point_call, window_call, nearest_call, empty_call}
use Rattle.tree.specs.Calls.{Answer, refusal, inserted, reports, point_answer, window_answer, nearest_answer, empty_answer}
use Rattle.tree.specs.Calls.{is_accepted, after_all, answers}
use Rattle.tree.specs.Record.{recorded, record_of}

module _ (S : Space) where
  -- The leaf holds an entry of that cell.
  abbrev pub leaf_holds : S.Cell → Item S 1 → Bool
  leaf_holds c b = any (of_cell S c) b.child

  -- The polygon of the leaf has the cells of its entries.
  abbrev pub leaf_covers : Item S 1 → Type 0
  leaf_covers b = All (λ e. S.has b.poly e.cell ≡ true) b.child

  -- "Wherever a call reports the number of entries held, that is the record's length after the call."
  abbrev pub Reported : Answer S → List (EntryOf S) → Type 0
  Reported (refusal k) r = Unit {0}
  Reported (inserted n k) r = n ≡ length r
  Reported (reports n) r = n ≡ length r
  Reported (point_answer e v) r = Unit {0}
  Reported (window_answer es v) r = Unit {0}
  Reported (nearest_answer e d v) r = Unit {0}
  Reported (empty_answer b v) r = Unit {0}

  module _ (Win : Window S) where
    -- What demand 3 says of the index after a list of calls, where r is the record after it.
    pub record IndexClaim (R : Root S) (N : ℕ) (i : Index S) (r : List (EntryOf S)) : Type 0 where
      -- the tree is sound and has at most N nodes
      pub sound : Sound S R i
      pub room : node_count S i ≤ N
      -- "The entries held are exactly those .. as document 01's record gives them": every test is passed by as many,
      -- and each cell is held at most once
      pub entries_same : Bag (entries S i) r
      pub entries_once : (c : S.Cell) → count_of (of_cell S c) (entries S i) ≡ cond (holds S c i) 1 0
      -- "no cell lies in the polygons of two different nodes of equal depth"
      pub separate : (d j k : ℕ) (p q : S.Poly) (c : S.Cell)
          → nth (polygons_at S d i) j ≡ some p → nth (polygons_at S d i) k ≡ some q
          → S.has p c ≡ true → S.has q c ≡ true → j ≡ k
      -- "every child stays within its parent"
      pub within : All (λ e. (c : S.Cell) → S.has e.below c ≡ true → S.has e.parent c ≡ true) (edges S i)
      -- "all leaves are equally deep"
      pub deep : All (λ k. suc k ≡ height S i) (leaf_depths S i)
      -- "Each is in exactly one leaf, and the polygon of that leaf has its cell."
      pub one_leaf : (c : S.Cell) → count_of (leaf_holds c) (leaves S i) ≡ cond (holds S c i) 1 0
      pub covers : All leaf_covers (leaves S i)
      -- "they are at most the height"
      pub visits_few : (c : S.Cell) → visits S c i ≤ height S i
      -- a nearest query: "the entry must be the one that a look at all of them gives", and that is the record's nearest
      pub walk_nearest : (c : S.Cell) → (walk S c i).best ≡ nearest S c i
      pub nearest_is : (c : S.Cell) (e : EntryOf S) → nearest S c i ≡ some e → IsNearest S c r e
      -- "Visits are at most the number of nodes."
      pub walk_few : (c : S.Cell) → (walk S c i).entered ≤ node_count S i
      -- an emptiness query: "The yes must hold exactly when the window query reports zero matches."
      pub empty_exact : (w : Win.W) → is_empty S Win w i ≡ eqb (length (matches S Win w i)) 0
      -- its visits "never exceed those of the window query"
      pub empty_few : (w : Win.W) → empty_visits S Win w i ≤ window_visits S Win w i

    -- The cell of an insertion is on the grid; off the grid a call is refused by 3 before it gets here.
    abbrev pub OnGrid : Call S Win → Type 0
    OnGrid (insert_call e) = S.Real e.cell
    OnGrid (remove_call c) = Unit {0}
    OnGrid clear_call = Unit {0}
    OnGrid (point_call c) = Unit {0}
    OnGrid (window_call w) = Unit {0}
    OnGrid (nearest_call c) = Unit {0}
    OnGrid (empty_call w) = Unit {0}

    -- The same for every call of a list, where r is the record before it.
    unfoldable pub ReportedAll : List (EntryOf S) → List (Call S Win) → List (Answer S) → Type 0
    ReportedAll r (k ∷ ks) (a ∷ more) = Reported a (recorded r k (is_accepted a))
        × ReportedAll (recorded r k (is_accepted a)) ks more
    ReportedAll r [] more = Unit {0}
    ReportedAll r (k ∷ ks) [] = Unit {0}

    -- The claim about a list of calls.
    pub record Claim (R : Root S) (N : ℕ) (ks : List (Call S Win)) : Type 0 where
      pub index : IndexClaim R N (after_all S R N Win none ks)
          (record_of [] ks (map is_accepted (answers S R N Win none ks)))
      pub reported : ReportedAll [] ks (answers S R N Win none ks)
