-- The returns of the call.
use Prim.Native.Nat.{ℕ, suc, ◌+◌, ◌≤◌}
use mathlib.Core.Path.{◌≡◌, refl, sym, ap, ◌∙◌, subst}
use mathlib.Core.List.{List}
use mathlib.Core.Option.{Option, none, some, some-injective}
use native.Mathlib.Omega.{arith}
use Rattle.geometry.specs.declared.rect.Cell.{Cell}
use Rattle.geometry.specs.declared.rect.Rect.{Rect}
use Rattle.tree.specs.Nodes.{Item}
use Rattle.tree.specs.Sound.{SoundItem}
use Rattle.tree.specs.Nearest as N
use Rattle.tree.proofs.Depth.{top_sound}
use Rattle.tree.proofs.NearestWalk.{walk_nearest}
use Rattle.plane.specs.Lines.{CellEntry}
use Rattle.plane.specs.Fanout.{fanout, index_space, index_root}
use Rattle.plane.proofs.Rects.{plane_space_laws}
use Rattle.memory.specs.Layout.{root_in}
use Rattle.memory.specs.Reading.{reading, read_node}
use Rattle.memory.specs.TreeIn.{TreeIn}
use Rattle.memory.proofs.ReadingLaws.{read_as, read_sound}
use Rattle.answers.specs.declared.answer.NearestFound.{NearestFound}
use Rattle.answers.specs.declared.answer.Refusal.{Refusal}
use Rattle.answers.specs.declared.answer.Refusal.TheVariants as R
use Rattle.answers.specs.Answers.{nearest_end, nearest_read}
use Rattle.soundness.specs.Open.{NoTree, OpenedAs}
use Rattle.walks.specs.Walks.{any_polygon, any_entry, visits_below}
use Rattle.walks.proofs.TreeWalk.{tree_walkable}
use Rattle.walks.proofs.WalkRows.{visits_few}
use Rattle.std.specs.Prelude.{Some, None, Result, Ok, Err}
use Rattle.std.specs.Prelude as Code
use Rattle.nearest.specs.declared.near.Candidate.{Candidate}
use Rattle.nearest.specs.declared.near.Near.{Near}
use Rattle.nearest.specs.Near.{MetBy, candidate, near_by, near_of, met_of}
use Rattle.nearest.specs.Below.{walk_from, walk_below, near_below, NearWalk}

-- the answer by the code's form
abbrev candidate_found : Candidate → ℕ → NearestFound
candidate_found k v =
    record { x = k.entry.cell.x; y = k.entry.cell.y; tag = k.entry.tag; distance = k.distance; visits = v }

abbrev found_end : Code.Option Candidate → ℕ → Result NearestFound Refusal
found_end None v = Err R.NothingHeld
found_end (Some k) v = Ok (candidate_found k v)

found_is : (c : Cell) (o : Option CellEntry) (v : ℕ) → found_end (candidate c o) v ≡ nearest_end c o v
unfolding nearest_end
found_is c none v = refl
found_is c (some e) v = refl

-- every reading of a node is sound
abbrev SoundAt : List ℕ → ℕ → ℕ → Type 0
SoundAt m level k = (b : Item index_space (suc level)) → read_node fanout level m 0 k ≡ some b
    → (p : List Rect) × SoundItem index_space (suc level) p b

module _ (m : List ℕ) (level root : ℕ) (x : TreeIn m level root) where
  -- the tree that the memory reads as, its nearest entry and its walk
  abbrev best : Cell → Option CellEntry
  best c = N.nearest index_space c (some x.tree)

  abbrev entered : Cell → ℕ
  entered c = (N.walk index_space c (some x.tree)).entered

  root_sound : SoundAt m x.tree.level (root_in m)
  root_sound b e =
      let t = x.tree in
      let q = some-injective _ _ (sym (read_as fanout m t x.reads).root_node ∙ e) in
      let s = top_sound index_space index_root t (read_sound fanout m t x.reads).sound in
      (t.root, subst (SoundItem index_space (suc t.level) t.root) q s)

  pub tree_near : NearWalk level m 0 root
  tree_near = record {
    walk = tree_walkable m level root x;
    sound = subst (λ (l : ℕ). SoundAt m l root) x.level_is (subst (SoundAt m x.tree.level) x.root_is root_sound);
  }

  pub tree_room : (r : Near) → r ≡ record { best = None; visits = 0 } → r.visits + visits_below any_polygon level m 0 root ≤ 256
  tree_room r e =
      let v : r.visits ≡ 0 = ap (λ (y : Near). y.visits) e in
      let f = visits_few any_polygon any_entry level m 0 root (tree_walkable m level root x) in
      omega arith

  -- the walk in the memory is the walk of the tree
  whole_walk : (c : Cell) (w : MetBy c) → w ≡ N.start index_space c → walk_below c level m 0 root w ≡ N.walk index_space c (some x.tree)
  unfolding walk_below walk_from
  whole_walk c w e = rw (e, ← x.level_is, ← x.root_is, (read_as fanout m x.tree x.reads).root_node)

  module _ (c : Cell) (n r : Near) (ni : n ≡ record { best = None; visits = 0 }) (e : r ≡ near_below c level m 0 root n) where
    result : r ≡ near_by c (best c) (entered c)
    result =
        let w = whole_walk c (met_of c n) (ap (met_of c) ni) in
        let s = walk_nearest index_space (plane_space_laws fanout) c index_root (some x.tree) (read_sound fanout m x.tree x.reads).sound in
        e ∙ ap (near_of c) w ∙ ap (λ (o : Option CellEntry). near_by c o (entered c)) s

    read_is : nearest_read c (reading fanout m) ≡ nearest_end c (best c) (entered c)
    unfolding nearest_read
    read_is = rw x.reads

    answer_is : found_end r.best r.visits ≡ nearest_read c (reading fanout m)
    answer_is = ap (λ (y : Near). found_end y.best y.visits) result ∙ found_is c (best c) (entered c) ∙ sym read_is

    pub tree_nothing : r.best ≡ None → Err R.NothingHeld ≡ nearest_read c (reading fanout m)
    tree_nothing f = rw f at answer_is

    pub tree_found : (k : Candidate) → r.best ≡ Some k
        → Ok (candidate_found k r.visits) ≡ nearest_read c (reading fanout m)
    tree_found k f = rw f at answer_is

-- what is answered where the memory reads as no tree, or as the empty index
module _ (m : List ℕ) (c : Cell) where
  pub read_no_tree : (r : Refusal) → NoTree m r → Err r ≡ nearest_read c (reading fanout m)
  unfolding nearest_read
  read_no_tree r p = rw (p.reason, p.reads)

  pub read_empty : OpenedAs m (Ok None) → Err R.NothingHeld ≡ nearest_read c (reading fanout m)
  unfolding nearest_read nearest_end
  read_empty p = rw p

pub ruleset without_tree = (read_no_tree, read_empty)
