-- The node on the path at a level, under sides: its branches before the place, the one or two at the place, those behind it.
use Prim.Native.Nat.{ℕ, zero, suc, ◌+◌, ◌*◌, ◌-◌, ◌≤◌, ◌<◌}
use mathlib.Core.Path.{◌≡◌, refl, ◌∙◌}
use mathlib.Core.List.{List, [], ◌∷◌, ◌++◌, append_assoc, flat_map}
use native.Mathlib.Omega.{arith}
use lib.ListN.{length, take, drop, length-append, length-take, length-drop}
use lib.Seq.{take_all}
use Rattle.path.specs.declared.level.Level.{Level}
use Rattle.std.specs.Prelude.{Some, None}
use Rattle.geometry.specs.declared.rect.Line.{Line}
use Rattle.geometry.specs.declared.rect.Side.{Side}
use Rattle.geometry.specs.declared.rect.Side.TheVariants.{Left, Right}
use Rattle.tree.specs.Lists.{total}
use Rattle.tree.specs.Space.{right}
use Rattle.tree.specs.Nodes.{Item, nodes}
use Rattle.tree.specs.Plan.{branch_under}
use Rattle.tree.specs.Pass.{deep}
use Rattle.tree.proofs.Counts.{total_append}
use Rattle.plane.specs.Lines.{CellEntry}
use Rattle.plane.specs.Fanout.{index_space}
use Rattle.layout.specs.Loaded.{node_of}
use Rattle.layout.specs.Nodes.{count_at}
use Rattle.walks.specs.Walks.{Walkable}
use Rattle.split_line.specs.Sides.{side_of, sides_of}
use Rattle.path.specs.Path.{part_on, place_on, line_on, polygon_on}
use Rattle.tree_after.specs.declared.node.Branches.{Branches}
use Rattle.tree_after.specs.Writes.{Writes, Room}
use Rattle.tree_after.specs.Path.{row_at, row_under, half_under, cut_under, PathFrom}
use Rattle.tree_after.specs.Rows.{node_parts, with_branch, no_branches, Grows, range_under, before_on, behind_on, RestWritten, RestRoom}
use Rattle.tree_after.proofs.CutLaws.{front_is, cut_whole, cut_split}
use Rattle.tree_after.proofs.DeepRows.{under_one}
use Rattle.tree_after.proofs.PathLaws.{path_node, path_place}
use Rattle.tree_after.proofs.RowLaws.{row_count, grows_one, grows_more}
use Rattle.tree_after.proofs.BranchLaws.{under_nodes, rest_node}

-- the items of a routing node
module _ (n : ℕ) (path : List Level) (m : List ℕ) (e : CellEntry) (ss : List Side) where
  before_is : range_under n m (part_on path (suc n)) 0 (place_on path (suc n)) ss ≡ flat_map (deep index_space (suc n) (sides_of ss)) (take (place_on path (suc n)) (row_at n m (part_on path (suc n))))
  unfolding range_under
  before_is = let z : place_on path (suc n) - 0 ≡ place_on path (suc n) = omega arith in rw z

  behind_is : Walkable (suc n) m 0 (part_on path (suc n))
      → range_under n m (part_on path (suc n)) (place_on path (suc n) + 1) (count_at m (part_on path (suc n))) ss ≡ flat_map (deep index_space (suc n) (sides_of ss)) (drop (place_on path (suc n) + 1) (row_at n m (part_on path (suc n))))
  unfolding range_under
  behind_is v =
      let c = row_count n m (part_on path (suc n)) v in
      let l : length (drop (place_on path (suc n) + 1) (row_at n m (part_on path (suc n)))) ≤ count_at m (part_on path (suc n)) - (place_on path (suc n) + 1) = rw (length-drop, c) (omega arith) in
      rw (take_all (count_at m (part_on path (suc n)) - (place_on path (suc n) + 1)) (drop (place_on path (suc n) + 1) (row_at n m (part_on path (suc n)))) l)

  node_row : Walkable (suc n) m 0 (part_on path (suc n)) → row_under (suc n) path m e (sides_of ss)
      ≡ range_under n m (part_on path (suc n)) 0 (place_on path (suc n)) ss ++ (cut_under n path m e (sides_of ss) ++ range_under n m (part_on path (suc n)) (place_on path (suc n) + 1) (count_at m (part_on path (suc n))) ss)
  unfolding row_under cut_under
  node_row v = rw (before_is, behind_is v)

-- room for the last branches of a node and the node itself, taken apart
module _ (n : ℕ) (ss : List Side) (bs cs : List (Item index_space (suc n))) (w : List ℕ) (t : Branches) (r : RestRoom n ss (bs ++ cs) w t) where
  pub rest_first : Room n w t.next bs
  rest_first =
      let a = total_append (nodes index_space (suc n)) bs cs in
      let f = r.fits in
      record { fits = omega arith; small = r.small }

  pub rest_later : (w₁ : List ℕ) (t₁ : Branches) → Grows n w t bs w₁ t₁ → RestRoom n ss cs w₁ t₁
  rest_later w₁ t₁ g =
      let a = total_append (nodes index_space (suc n)) bs cs in
      let b = g.writes.next_is in
      let l = g.writes.same_length in
      let c = g.count_is in
      let d : t₁.node.count + length cs ≡ t.node.count + length (bs ++ cs) = rw length-append (omega arith) in
      let f = r.fits in
      let s = r.small in
      record { fits = rw d (omega arith); small = omega arith }

-- the branches that take the place of the node on the path one level lower
abbrev pub middle_on : (level : ℕ) → List Level → List ℕ → CellEntry → List Side → List (Item index_space (suc (level - 1)))
middle_on level path m e ss = cut_under (level - 1) path m e (sides_of ss)

-- all branches of the node on the path
abbrev pub branches_on : (level : ℕ) → List Level → List ℕ → CellEntry → List Side → List (Item index_space (suc (level - 1)))
branches_on level path m e ss = before_on level path m ss ++ (middle_on level path m e ss ++ behind_on level path m ss)

-- what holds of the node with these branches holds of the node
pub to_half : (P : (n : ℕ) → List (Item index_space (suc n)) → Type 0) (level : ℕ) (path : List Level) (m : List ℕ) (e : CellEntry) (ss : List Side)
    → 1 ≤ level → PathFrom level path m
    → P (suc (level - 1)) (branch_under index_space (sides_of ss) (polygon_on path level) (branches_on level path m e ss))
    → P level (half_under level path m e (sides_of ss))
unfolding half_under PathFrom
to_half P zero path m e ss h x y = absurd (omega arith)
to_half P (suc n) path m e ss h x y =
    let z : suc n - 1 ≡ n = omega arith in
    rw (node_row n path m e ss x.0.walk) (rw z at y)

from_half : (P : (n : ℕ) → List (Item index_space (suc n)) → Type 0) (level : ℕ) (path : List Level) (m : List ℕ) (e : CellEntry) (ss : List Side)
    → 1 ≤ level → PathFrom level path m → P level (half_under level path m e (sides_of ss))
    → P (suc (level - 1)) (branch_under index_space (sides_of ss) (polygon_on path level) (branches_on level path m e ss))
from_half P level path m e ss h x =
    to_half
    (λ n bs. P n bs → P (suc (level - 1)) (branch_under index_space (sides_of ss) (polygon_on path level) (branches_on level path m e ss)))
    level path m e ss h x (λ y. y)

-- a range of branches has no more of them under sides
pub range_few : (n : ℕ) (m : List ℕ) (k a b : ℕ) (ss : List Side) → length (range_under n m k a b ss) ≤ b - a
unfolding range_under deep flat_map
range_few n m k a b ss =
    let f = fewer (take (b - a) (drop a (row_at n m k))) in
    let l : length (take (b - a) (drop a (row_at n m k))) ≤ b - a = rw length-take (omega arith) in
    omega arith
  where
    fewer : (bs : List (Item index_space (suc n))) → length (flat_map (deep index_space (suc n) (sides_of ss)) bs) ≤ length bs
    fewer [] = omega arith
    fewer (c ∷ bs) =
        let i = fewer bs in
        let o = under_one c.poly (flat_map (deep index_space n (sides_of ss)) c.child) (sides_of ss) in
        rw length-append (omega arith)

-- A part of the branches of the node on the path at a level is written, at most `more` of them behind the first; the rest is to come.
pub record HalfAt (level : ℕ) (path : List Level) (m : List ℕ) (e : CellEntry) (ss : List Side) (w : List ℕ) (next more : ℕ) (rest : List (Item index_space (suc (level - 1)))) (w₁ : List ℕ) (t : Branches) : Type 0 where
  pub some : 1 ≤ level
  pub path_from : PathFrom level path m
  pub bs : List (Item index_space (suc (level - 1)))
  pub whole : bs ++ rest ≡ branches_on level path m e ss
  pub grows : Grows (level - 1) w (no_branches next) bs w₁ t
  pub room : RestRoom (level - 1) ss rest w₁ t
  pub few : t.node.count ≤ place_on path level + more

module _ (level : ℕ) (path : List Level) (m : List ℕ) (e : CellEntry) (ss : List Side) (w : List ℕ) (next : ℕ) where
  -- the leaf
  pub leaf_room : level ≡ 0 → Room level w next (half_under level path m e (sides_of ss)) → Room 0 w next (half_under 0 path m e (sides_of ss))
  leaf_room z r = rw z at r

  pub leaf_done : (w₁ : List ℕ) (r : ℕ) → level ≡ 0 → Writes 0 w next (half_under 0 path m e (sides_of ss)) w₁ r → Writes level w next (half_under level path m e (sides_of ss)) w₁ r
  leaf_done w₁ r z x = rw z x

  module _ (ne : level ≡ 0 → ⊥) (x : PathFrom level path m) (r : Room level w next (half_under level path m e (sides_of ss))) where
    half_room : RestRoom (level - 1) ss (branches_on level path m e ss) w (no_branches next)
    unfolding node_of
    half_room =
        let y = from_half (λ n bs. Room n w next bs) level path m e ss (omega arith) x r in
        let u = under_nodes (level - 1) ss (polygon_on path level) (branches_on level path m e ss) in
        let f = y.fits in
        let l : List (Item index_space (suc (level - 1))) = branches_on level path m e ss in
        let z : 0 + length l ≡ length l = omega arith in
        let g : 64 + 128 * (next + total (nodes index_space (suc (level - 1))) l + node_parts ss (0 + length l)) ≤ length w = rw z (omega arith) in
        record { fits = g; small = r.small }

    pub before_room : Room (level - 1) w next (before_on level path m ss)
    before_room = rest_first (level - 1) ss (before_on level path m ss) (middle_on level path m e ss ++ behind_on level path m ss) w (no_branches next) half_room

    pub half_start : (w₁ : List ℕ) (t : Branches) → Grows (level - 1) w (no_branches next) (before_on level path m ss) w₁ t
        → HalfAt level path m e ss w next 0 (middle_on level path m e ss ++ behind_on level path m ss) w₁ t
    unfolding node_of
    half_start w₁ t g = record {
      some = omega arith;
      path_from = x;
      bs = before_on level path m ss;
      whole = refl;
      grows = g;
      room = rest_later (level - 1) ss (before_on level path m ss) (middle_on level path m e ss ++ behind_on level path m ss) w (no_branches next) half_room w₁ t g;
      few = (let c = g.count_is in let f = range_few (level - 1) m (part_on path level) 0 (place_on path level) ss in omega arith);
    }

  -- one branch or none more
  module _ (more : ℕ) (cs rest : List (Item index_space (suc (level - 1)))) (w₁ : List ℕ) (t : Branches) (x : HalfAt level path m e ss w next more (cs ++ rest) w₁ t) where
    pub next_room : Room (level - 1) w₁ t.next cs
    next_room = rest_first (level - 1) ss cs rest w₁ t x.room

    next_one : (w₂ : List ℕ) (after : ℕ) (t₂ : Branches) → more ≤ 1 → length cs ≤ 1 → Writes (level - 1) w₁ t.next cs w₂ after → t₂ ≡ with_branch t after
        → HalfAt level path m e ss w next (more + 1) rest w₂ t₂
    next_one w₂ after t₂ u o y q =
        let f = x.few in
        let p = path_place path m level x.some x.path_from in
        let v = (path_node path m level x.path_from).walk.few in
        let g : Grows (level - 1) w₁ t cs w₂ t₂ = rw q (grows_one (level - 1) w₁ t w₂ after (omega arith) cs o y) in
        record {
          some = x.some;
          path_from = x.path_from;
          bs = x.bs ++ cs;
          whole = append_assoc x.bs cs rest ∙ x.whole;
          grows = grows_more (level - 1) w (no_branches next) x.bs w₁ t cs w₂ t₂ x.grows g;
          room = rest_later (level - 1) ss cs rest w₁ t x.room w₂ t₂ g;
          few = (let c = g.count_is in omega arith);
        }

  -- there is a place for one more top node
  pub half_few : (more : ℕ) (rest : List (Item index_space (suc (level - 1)))) (w₁ : List ℕ) (t : Branches)
      → HalfAt level path m e ss w next more rest w₁ t → more ≤ 1 → t.node.count < 9
  half_few more rest w₁ t x u =
      let f = x.few in
      let p = path_place path m level x.some x.path_from in
      let v = (path_node path m level x.path_from).walk.few in
      omega arith

  -- the last branches, then the node
  module _ (w₁ : List ℕ) (t : Branches) (x : HalfAt level path m e ss w next 2 (behind_on level path m ss) w₁ t) where
    pub rest_room : RestRoom (level - 1) ss (behind_on level path m ss) w₁ t
    rest_room = x.room

    pub rest_few : t.node.count ≤ place_on path level + 2
    rest_few = x.few

    pub half_done : (w₂ : List ℕ) (r : ℕ) → RestWritten (level - 1) (polygon_on path level) ss (behind_on level path m ss) w₁ t w₂ r
        → Writes level w next (half_under level path m e (sides_of ss)) w₂ r
    half_done w₂ r y =
        let z = rest_node (level - 1) (polygon_on path level) ss w next x.bs (behind_on level path m ss) w₁ t w₂ r x.grows y in
        to_half (λ n bs. Writes n w next bs w₂ r) level path m e ss x.some x.path_from (rw x.whole at z)

-- the branch at the place, where its node is not split
module _ (level : ℕ) (path : List Level) (m : List ℕ) (e : CellEntry) (ss : List Side) (w : List ℕ) (next : ℕ) (w₁ : List ℕ) (t : Branches)
    (x : HalfAt level path m e ss w next 0 (middle_on level path m e ss ++ behind_on level path m ss) w₁ t) (z : line_on path (level - 1) ≡ None) where
  whole_at : HalfAt level path m e ss w next 0 (half_under (level - 1) path m e (sides_of ss) ++ behind_on level path m ss) w₁ t
  whole_at = rw (← (cut_whole (level - 1) path m e ss z)) x

  pub whole_room : Room (level - 1) w₁ t.next (half_under (level - 1) path m e (sides_of ss))
  whole_room = next_room level path m e ss w next 0 _ _ w₁ t whole_at

  pub whole_done : (w₂ : List ℕ) (after : ℕ) (t₂ : Branches) → Writes (level - 1) w₁ t.next (half_under (level - 1) path m e (sides_of ss)) w₂ after
      → t₂ ≡ with_branch t after → HalfAt level path m e ss w next 2 (behind_on level path m ss) w₂ t₂
  unfolding half_under
  whole_done w₂ after t₂ y q =
      let o = under_one (polygon_on path (level - 1)) (row_under (level - 1) path m e (sides_of ss)) (sides_of ss) in
      let r = next_one level path m e ss w next 0 _ _ w₁ t whole_at w₂ after t₂ (omega arith) o y q in
      record { some = r.some; path_from = r.path_from; bs = r.bs; whole = r.whole; grows = r.grows; room = r.room; few = (let f = r.few in omega arith) }

-- the branches at the place, where its node is split: left of the line, then right of it
abbrev pub right_on : (level : ℕ) → List Level → List ℕ → CellEntry → List Side → Line → List (Item index_space (suc (level - 1)))
right_on level path m e ss l = half_under (level - 1) path m e (right l ∷ sides_of ss)

module _ (level : ℕ) (path : List Level) (m : List ℕ) (e : CellEntry) (ss : List Side) (w : List ℕ) (next : ℕ) (w₁ : List ℕ) (t : Branches)
    (x : HalfAt level path m e ss w next 0 (middle_on level path m e ss ++ behind_on level path m ss) w₁ t)
    (l : Line) (us : List Side) (h : line_on path (level - 1) ≡ Some l) (u : us ≡ Left l ∷ ss) where
  left_at : HalfAt level path m e ss w next 0 (half_under (level - 1) path m e (sides_of us) ++ (right_on level path m e ss l ++ behind_on level path m ss)) w₁ t
  left_at = rw (← (append_assoc (half_under (level - 1) path m e (sides_of us)) (right_on level path m e ss l) (behind_on level path m ss)), ← (cut_split (level - 1) path m e ss l us h u)) x

  pub left_room : Room (level - 1) w₁ t.next (half_under (level - 1) path m e (sides_of us))
  left_room = next_room level path m e ss w next 0 _ _ w₁ t left_at

  pub left_done : (w₂ : List ℕ) (after : ℕ) (t₂ : Branches) → Writes (level - 1) w₁ t.next (half_under (level - 1) path m e (sides_of us)) w₂ after
      → t₂ ≡ with_branch t after → HalfAt level path m e ss w next 1 (right_on level path m e ss l ++ behind_on level path m ss) w₂ t₂
  unfolding half_under
  left_done w₂ after t₂ y q =
      let o = under_one (polygon_on path (level - 1)) (row_under (level - 1) path m e (sides_of us)) (sides_of us) in
      next_one level path m e ss w next 0 _ _ w₁ t left_at w₂ after t₂ (omega arith) o y q

module _ (level : ℕ) (path : List Level) (m : List ℕ) (e : CellEntry) (ss : List Side) (w : List ℕ) (next : ℕ) (w₁ : List ℕ) (t : Branches) (l : Line)
    (x : HalfAt level path m e ss w next 1 (right_on level path m e ss l ++ behind_on level path m ss) w₁ t)
    (us : List Side) (u : us ≡ Right l ∷ ss) where
  right_at : HalfAt level path m e ss w next 1 (half_under (level - 1) path m e (sides_of us) ++ behind_on level path m ss) w₁ t
  unfolding side_of
  right_at = rw (front_is us ss (Right l) u) x

  pub right_room : Room (level - 1) w₁ t.next (half_under (level - 1) path m e (sides_of us))
  right_room = next_room level path m e ss w next 1 _ _ w₁ t right_at

  pub right_done : (w₂ : List ℕ) (after : ℕ) (t₂ : Branches) → Writes (level - 1) w₁ t.next (half_under (level - 1) path m e (sides_of us)) w₂ after
      → t₂ ≡ with_branch t after → HalfAt level path m e ss w next 2 (behind_on level path m ss) w₂ t₂
  unfolding half_under
  right_done w₂ after t₂ y q =
      let o = under_one (polygon_on path (level - 1)) (row_under (level - 1) path m e (sides_of us)) (sides_of us) in
      next_one level path m e ss w next 1 _ _ w₁ t right_at w₂ after t₂ (omega arith) o y q
