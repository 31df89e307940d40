-- The loop over a node's branches that writes the extents of their groups.
use Prim.Native.Nat.{ℕ, zero, suc, ◌+◌, ◌-◌, ◌≤◌, ◌<◌}
use mathlib.Core.Path.{◌≡◌, refl, sym, ap, ◌∙◌, subst}
use mathlib.Core.Bool.{Bool, true, false, cond}
use mathlib.Core.List.{List, [], ◌∷◌, ◌++◌, map, flat_map, append-nil, append_assoc, map-append}
use mathlib.Core.Option.{some}
use native.Mathlib.Omega.{arith}
use native.Mathlib.Decide.{ℕ_discrete, dec_le}
use borrow.Author.Tests.{eq-eqb, ne_eqb, eqb-true}
use mir.Syntax.{w32}
use mir.Val.{Fits}
use lib.Dec.{eqb}
use lib.ListN.{length, drop, drop_of_length-le, length-append}
use Rattle.geometry.specs.declared.rect.Cell.{Cell}
use Rattle.geometry.specs.declared.rect.Line.{Line}
use Rattle.geometry.specs.Cells.{on_grid, valid}
use Rattle.geometry.specs.declared.rect.Rect.{Rect}
use Rattle.tree.specs.Lists.{All}
use Rattle.tree.specs.Nodes.{Item, held}
use Rattle.tree.proofs.Lists.{all_append, all_head, all_tail, flat_map_all}
use Rattle.plane.specs.Lines.{CellEntry, some_payload, entry_of, OnGrid}
use Rattle.plane.specs.Fanout.{fanout, index_space}
use Rattle.memory.specs.Layout.{part, children_in}
use Rattle.memory.specs.Reading.{read_node}
use Rattle.memory.proofs.ReadingLaws.{RowParts, row_parts, row_none, row_length, node_parts_lem}
use Rattle.layout.specs.Nodes.{count_at, child_at}
use Rattle.walks.specs.Count.{entries_at, entries_of}
use Rattle.walks.proofs.WalkRows.{RowWalkable, walkable}
use Rattle.walks.proofs.WalkLoop.{children_count, next_child}
use Rattle.split_line.specs.GroupExtent.{extent_rect_of}
use Rattle.split_line.specs.Groups.{halves_of, groups_in, groups_at, NodeHere}
use Rattle.split_line.specs.GroupExtents.{side_extent, branch_extents, BranchHere, GroupExtents}
use Rattle.split_line.proofs.ExtentsLaws.{extent_valid, grid_kept}

module _ (n place : ℕ) (l : Line) (e : CellEntry) where
  -- the groups of the branches from the i-th on
  unfoldable pub groups_from : ℕ → List (Item index_space (suc n)) → List (List CellEntry)
  groups_from i [] = []
  groups_from i (b ∷ bs) = cond (eqb i place) (halves_of l (held index_space (suc n) b ++ (e ∷ []))) (held index_space (suc n) b ∷ []) ++ groups_from (i + 1) bs

  -- behind the place no branch is split
  from_behind : (i : ℕ) (bs : List (Item index_space (suc n))) → place < i → groups_from i bs ≡ map (held index_space (suc n)) bs
  unfolding groups_from
  from_behind i [] h = refl
  from_behind i (b ∷ bs) h = rw (ne_eqb i place (λ q. omega arith), from_behind (i + 1) bs (omega arith))

  -- they are the groups of the definition
  from_start : (i p : ℕ) (bs : List (Item index_space (suc n))) → i + p ≡ place → p < length bs → groups_from i bs ≡ groups_in n bs p l e
  unfolding groups_from flat_map
  from_start i p [] q h = absurd (omega arith)
  from_start i zero (b ∷ bs) q h =
      rw (eq-eqb i place (omega arith), from_behind (i + 1) bs (omega arith), append-nil)
  from_start i (suc p) (b ∷ bs) q h =
      let r : i + 1 + p ≡ place = omega arith in
      let s : suc p + 1 ≡ suc (p + 1) = omega arith in
      rw (ne_eqb i place (λ q. omega arith), from_start (i + 1) p bs r (omega arith), s)

-- Before the i-th of the t branches of the node at part k, which lead to nodes of level n: the extents of the groups before it are in the
-- list l.
pub record AtBranch (n : ℕ) (m : List ℕ) (level lo k place : ℕ) (below : Line) (c : Cell) (t i low : ℕ) (l : List Rect) : Type 0 where
  pub count : t ≡ count_at m k
  pub i_le : i ≤ t
  pub here : NodeHere m level lo k place c
  pub row : RowWalkable n m low k (drop i (children_in (part m k)))
  pub grid : All (λ b. OnGrid (held index_space (suc n) b)) row.row
  pub before : i ≤ place → length l ≡ i
  pub after : place < i → length l ≡ i + 1
  pub each : All (λ r. valid r ≡ true) l
  pub list : l ++ map extent_rect_of (groups_from n place below (entry_of c some_payload) i row.row) ≡ map extent_rect_of (groups_at level m lo k place below (entry_of c some_payload))

held_read_lem : (n : ℕ) (m : List ℕ) (lo k : ℕ) (b : Item index_space (suc n)) → read_node fanout n m lo k ≡ some b → entries_at n m lo k ≡ held index_space (suc n) b
unfolding entries_at entries_of held
held_read_lem n m lo k b e = rw e

start_at_lem : (n : ℕ) (m : List ℕ) (lo k place : ℕ) (below : Line) (c : Cell) (t : ℕ) → NodeHere m (suc n) lo k place c → t ≡ count_at m k → AtBranch n m (suc n) lo k place below c t 0 lo []
unfolding groups_at All held
start_at_lem n m lo k place below c t v t_is =
    let w = v.walk in
    let p = node_parts_lem fanout n m lo k w.node w.reads in
    let s = row_length (read_node fanout n m) lo k (children_in (part m k)) w.node.child p.row in
    let d = children_count (suc n) m lo k w in
    let u = v.place_in in
    record {
      count = t_is;
      i_le = omega arith;
      here = v;
      row = record { right = w.right; row = w.node.child; reads = p.row };
      grid = flat_map_all _ (held index_space (suc n)) w.node.child (subst OnGrid (held_read_lem (suc n) m lo k w.node w.reads) v.grid);
      before = λ g. refl;
      after = λ g. absurd (omega arith);
      each = tt;
      list = rw w.reads (ap (map extent_rect_of) (from_start n place below (entry_of c some_payload) 0 place w.node.child (omega arith) (omega arith)));
    }

pub branch_start : (m : List ℕ) (level lo k place : ℕ) (below : Line) (c : Cell) (t : ℕ) (l : List Rect) → NodeHere m level lo k place c → t ≡ count_at m k → l ≡ [] → AtBranch (level - 1) m level lo k place below c t 0 lo l
branch_start m zero lo k place below c t l v t_is h = let r = v.routing in absurd (omega arith)
branch_start m (suc n) lo k place below c t l v t_is h = let e : suc n - 1 ≡ n = omega arith in rw (e, h) (start_at_lem n m lo k place below c t v t_is)

map_cond : {A B : Type 0} (f : A → B) (b : Bool) (x y : List A) → cond b (map f x) (map f y) ≡ map f (cond b x y)
map_cond f true x y = refl
map_cond f false x y = refl

all_cond : {A : Type 0} (P : A → Type 0) (b : Bool) (x y : List A) → All P x → All P y → All P (cond b x y)
all_cond P true x y p q = p
all_cond P false x y p q = q

-- the extents of a branch by the entries it holds
module _ (n : ℕ) (m : List ℕ) (lo k : ℕ) (halved : Bool) (below : Line) (c : Cell) where
  branch_groups : branch_extents n m lo k halved below c ≡ map extent_rect_of (cond halved (halves_of below (entries_at n m lo k ++ (entry_of c some_payload ∷ []))) (entries_at n m lo k ∷ []))
  unfolding branch_extents side_extent
  branch_groups = map_cond extent_rect_of halved (halves_of below (entries_at n m lo k ++ (entry_of c some_payload ∷ []))) (entries_at n m lo k ∷ [])

  branch_valid : OnGrid (entries_at n m lo k) → on_grid c ≡ true → All (λ r. valid r ≡ true) (branch_extents n m lo k halved below c)
  unfolding branch_extents side_extent All
  branch_valid g h =
      let more = all_append (λ e. on_grid e.cell ≡ true) (entries_at n m lo k) (entry_of c some_payload ∷ []) g (h, tt) in
      all_cond (λ r. valid r ≡ true) halved _ _ (extent_valid _ (grid_kept _ _ more), (extent_valid _ (grid_kept _ _ more), tt)) (extent_valid _ g, tt)

module _ (n : ℕ) (m : List ℕ) (level lo k place : ℕ) (below : Line) (c : Cell) (t i low : ℕ) (l : List Rect) (a : AtBranch n m level lo k place below c t i low l) where
  pub branch_end : t ≤ i → GroupExtents m level lo k place below c l
  unfolding groups_from
  branch_end h =
      let w = a.here.walk in
      let s = children_count level m lo k w in
      let t_is = a.count in
      let d : length (children_in (part m k)) ≤ i = omega arith in
      let z : a.row.row ≡ [] = row_none (read_node fanout n m) low k a.row.row (rw (drop_of_length-le (children_in (part m k)) d) at a.row.reads) in
      let p = a.here.place_in in
      let q = a.after (omega arith) in
      let f = w.few in
      let g = a.i_le in
      record {
        list = record { few = omega arith; each = a.each };
        is = sym (append-nil l) ∙ (rw z at a.list);
      }

  module _ (h : i < t) (j : ℕ) (j_is : j ≡ child_at m k i) where
    parts : RowParts (read_node fanout n m) low k j (drop (i + 1) (children_in (part m k))) a.row.row
    parts =
        let t_is = a.count in
        let e = next_child level m lo k a.here.walk i (omega arith) in
        row_parts (read_node fanout n m) low k j _ a.row.row (rw (e, ← j_is) at a.row.reads)

    held_is : entries_at n m low j ≡ held index_space (suc n) parts.first
    held_is = held_read_lem n m low j parts.first parts.head

    grids : All (λ b. OnGrid (held index_space (suc n) b)) (parts.first ∷ parts.others)
    grids = rw parts.whole a.grid

    branch_grid : OnGrid (entries_at n m low j)
    branch_grid = subst OnGrid (sym held_is) (all_head _ parts.first parts.others grids)

    pub branch_below : j < k
    branch_below = parts.below

    pub branch_fits : Fits w32 (j + 1)
    branch_fits = let b = branch_below in let v = a.here.walk.below in omega arith

    room_is : (b : Bool) → eqb i place ≡ b → length l + cond b 2 1 ≤ 9
    room_is true e =
        let q = eqb-true i place e in
        let z = a.before (omega arith) in
        let f = a.here.walk.few in
        let t_is = a.count in
        omega arith
    room_is false e = let f = a.here.walk.few in let t_is = a.count in let z = next_most in omega arith
      where
        next_most : length l ≤ i + 1
        next_most = go (dec_le i place)
          where
            go : Dec (i ≤ place) → length l ≤ i + 1
            go (yes y) = let z = a.before y in omega arith
            go (no y) = let z = a.after (omega arith) in omega arith

    pub branch_here : BranchHere n m low j (eqb i place) below c l
    branch_here = record {
      branch = record { walk = walkable n m low j parts.first a.row.right parts.from parts.head; grid = branch_grid };
      cell = a.here.cell;
      room = room_is (eqb i place) refl;
    }

    module _ (l' : List Rect) (x : l' ≡ l ++ branch_extents n m low j (eqb i place) below c) where
      groups : List (List CellEntry)
      groups = cond (eqb i place) (halves_of below (held index_space (suc n) parts.first ++ (entry_of c some_payload ∷ []))) (held index_space (suc n) parts.first ∷ [])

      extents_are : branch_extents n m low j (eqb i place) below c ≡ map extent_rect_of groups
      unfolding groups
      extents_are = branch_groups n m low j (eqb i place) below c ∙ rw held_is

      count : (b : Bool) → eqb i place ≡ b → length l' ≡ length l + cond b 2 1
      unfolding branch_extents
      count true e = ap length (rw e at x) ∙ length-append l _
      count false e = ap length (rw e at x) ∙ length-append l _

      pub branch_again : AtBranch n m level lo k place below c t (i + 1) (j + 1) l'
      unfolding groups_from groups
      branch_again = record {
        count = a.count;
        i_le = omega arith;
        here = a.here;
        row = record { right = a.row.right; row = parts.others; reads = parts.tail };
        grid = all_tail _ parts.first parts.others grids;
        before = λ g. let e = count false (ne_eqb i place (λ q. omega arith)) in let z = a.before (omega arith) in omega arith;
        after = λ g. later (ℕ_discrete i place) g;
        each = rw x (all_append _ l _ a.each (branch_valid n m low j (eqb i place) below c branch_grid a.here.cell));
        list =
            ap (λ q. q ++ map extent_rect_of (groups_from n place below (entry_of c some_payload) (i + 1) parts.others)) (x ∙ ap (λ q. l ++ q) extents_are)
            ∙ append_assoc l _ _
            ∙ ap (λ q. l ++ q) (sym (map-append extent_rect_of groups (groups_from n place below (entry_of c some_payload) (i + 1) parts.others)))
            ∙ (rw (← parts.whole) at a.list);
      }
        where
          later : Dec (i ≡ place) → place < i + 1 → length l' ≡ i + 1 + 1
          later (yes q) g = let e = count true (eq-eqb i place q) in let z = a.before (omega arith) in omega arith
          later (no q) g = let e = count false (ne_eqb i place q) in let z = a.after (omega arith) in omega arith
