-- The walk below a node: into a leaf, and the loop over a routing node's children.
use Prim.Native.Nat.{ℕ, zero, suc, ◌+◌, ◌-◌, ◌≤◌, ◌<◌}
use mathlib.Core.Path.{◌≡◌, refl, sym, ap, ◌∙◌, subst}
use mathlib.Core.Bool.{Bool, true, false}
use mathlib.Core.List.{List, [], ◌∷◌, ◌++◌}
use mathlib.Core.Option.{Option}
use native.Mathlib.Omega.{arith}
use lib.ListN.{drop}
use Rattle.polygons.specs.Rules.{least_distance}
use Rattle.geometry.specs.declared.rect.Cell.{Cell}
use Rattle.distance.specs.Distance.{rect_distance}
use Rattle.tree.specs.Nodes.{Item}
use Rattle.tree.specs.Nearest.{enters}
use Rattle.tree.specs.Walk.{node_walk_visits}
use Rattle.tree.proofs.NearestWalk.{to_branch}
use Rattle.plane.specs.Lines.{CellEntry}
use Rattle.plane.specs.Fanout.{index_space}
use Rattle.memory.specs.Layout.{part, polygon_in, children_in, item_count, entries_in}
use Rattle.layout.specs.Nodes.{child_at, count_at, GoodPolygonPart}
use Rattle.walks.specs.Walks.{any_polygon, any_entry, visits_below, visits_from, entries_below, Walkable}
use Rattle.walks.proofs.WalkRows.{RowWalkable}
use Rattle.walks.proofs.FoldRows.{fold_none}
use Rattle.walks.proofs.WalkLoop.{AtChild, nothing_left, child_start, child_hit, child_walkable, child_polygon, next_child}
use Rattle.nearest.specs.declared.near.Near.{Near}
use Rattle.nearest.specs.Near.{MetBy, nearest_among, near_by, best_of, GoodNear, near_of, met_of, with_node, enters_near}
use Rattle.nearest.specs.Below.{walk_below, near_below, NearWalk}
use Rattle.nearest.proofs.NearMet.{good_near, near_is, met_near, good_entered, met_entered, enters_is}
use Rattle.nearest.proofs.NearRows.{walk_row, child_walk, row_walk, child_passed, child_entered, leaf_walk, node_walk, walk_bound}
use Rattle.nearest.proofs.NearSound.{SoundRow, row_sound, first_sound, rest_sound, polygon_sound}

-- a node that is entered is one of those counted
some_visits : (n : ℕ) (m : List ℕ) (lo k : ℕ) → Walkable n m lo k → 1 ≤ visits_below any_polygon n m lo k
unfolding visits_below visits_from
some_visits n m lo k x = rw x.reads (one_more_lem n x.node.child)
  where
    one_more_lem : (n : ℕ) (items : List (Item index_space n)) → 1 ≤ node_walk_visits index_space any_polygon n items
    one_more_lem zero es = unfold node_walk_visits in omega arith
    one_more_lem (suc n) bs = unfold node_walk_visits in omega arith

pub enter_room : (level : ℕ) (m : List ℕ) (lo k : ℕ) (met : Near) → NearWalk level m lo k
    → met.visits + visits_below any_polygon level m lo k ≤ 256 → met.visits ≤ 255
enter_room level m lo k met x h = let s = some_visits level m lo k x.walk in omega arith

-- a leaf: what was met with its entries
pub near_leaf : (c : Cell) (level : ℕ) (m : List ℕ) (lo k : ℕ) (met e r : Near) (p : List ℕ) → level ≡ 0 → NearWalk level m lo k
    → GoodNear c met → e ≡ with_node met → p ≡ part m k
    → r ≡ near_by c (nearest_among c (best_of e) (entries_in p (item_count p))) e.visits → r ≡ near_below c level m lo k met
near_leaf c level m lo k met e r p z x good ei q h =
    let w = leaf_walk c m lo k (met_of c met) (subst (λ (n : ℕ). Walkable n m lo k) z x.walk) in
    let t = met_entered c met e ei in
    let b : best_of e ≡ best_of met = ap (λ (u : MetBy c). u.best) t in
    let v : e.visits ≡ suc met.visits = ap (λ (u : MetBy c). u.entered) t in
    h
    ∙ ap (λ (s : List ℕ). near_by c (nearest_among c (best_of e) (entries_in s (item_count s))) e.visits) q
    ∙ ap (λ (o : Option CellEntry). near_by c (nearest_among c o (entries_in (part m k) (item_count (part m k)))) e.visits) b
    ∙ ap (near_by c (nearest_among c (best_of met) (entries_in (part m k) (item_count (part m k))))) v
    ∙ ap (near_of c) (sym w)
    ∙ ap (λ (n : ℕ). near_below c n m lo k met) (sym z)

-- Before the i-th child: what was met so far. r₀ is what was met when the node was entered. Walking the children from the i-th on from what was
-- met so far is walking them all (`whole`). vs and es are the visits and entries of the walk into every node: they bound the visits.
pub record NearLoop (c : Cell) (level : ℕ) (m : List ℕ) (lo k n : ℕ) (r₀ : Near) (i low : ℕ) (r : Near) : Type 0 where
  pub vs : ℕ
  pub es : List CellEntry
  pub at : AtChild any_polygon any_entry level m lo k n i low vs es
  pub good : GoodNear c r
  pub sound : SoundRow (level - 1) m low k (drop i (children_in (part m k)))
  pub whole : walk_row c (level - 1) m low k (drop i (children_in (part m k))) (met_of c r) ≡ walk_row c (level - 1) m lo k (children_in (part m k)) (met_of c r₀)
  pub few : r.visits + 1 ≤ r₀.visits + vs

module _ (c : Cell) (level : ℕ) (m : List ℕ) (lo k n : ℕ) (r₀ : Near) where
  pub near_start : (met : Near) → (level ≡ 0 → ⊥) → NearWalk level m lo k → GoodNear c met → r₀ ≡ with_node met → n ≡ count_at m k
      → NearLoop c level m lo k n r₀ 0 lo r₀
  near_start met ne x g e q = record {
    vs = 1;
    es = [];
    at = child_start any_polygon any_entry level m lo k n ne x.walk q;
    good = good_entered c met r₀ g e;
    sound = start level ne x;
    whole = refl;
    few = omega arith;
  }
    where
      start : (level : ℕ) → (level ≡ 0 → ⊥) → NearWalk level m lo k → SoundRow (level - 1) m lo k (children_in (part m k))
      start zero ne x = absurd (ne refl)
      start (suc l) ne x = let e : l ≡ suc l - 1 = omega arith in subst (λ (a : ℕ). SoundRow a m lo k (children_in (part m k))) e (row_sound l m lo k x)

  module _ (i low : ℕ) (r : Near) (x : NearLoop c level m lo k n r₀ i low r) where
    pub near_end : (met : Near) → (level ≡ 0 → ⊥) → GoodNear c met → r₀ ≡ with_node met → n ≤ i → r ≡ near_below c level m lo k met
    near_end met ne g e h =
        let d = nothing_left any_polygon any_entry level m lo k n i low x.vs x.es x.at h in
        let w : met_of c r ≡ walk_row c (level - 1) m lo k (children_in (part m k)) (met_of c r₀)
        = sym (fold_none (level - 1) (to_branch index_space c (level - 1)) m low k (met_of c r))
        ∙ ap (λ (ks : List ℕ). walk_row c (level - 1) m low k ks (met_of c r)) (sym d) ∙ x.whole in
        near_is c r x.good ∙ ap (near_of c) (w ∙ whole_node level ne x.at.walkable met g e)
      where
        whole_node : (level : ℕ) → (level ≡ 0 → ⊥) → Walkable level m lo k → (met : Near) → GoodNear c met → r₀ ≡ with_node met
            → walk_row c (level - 1) m lo k (children_in (part m k)) (met_of c r₀) ≡ walk_below c level m lo k (met_of c met)
        whole_node zero ne y met g e = absurd (ne refl)
        whole_node (suc l) ne y met g e =
            let q : suc l - 1 ≡ l = omega arith in
            ap (λ (a : ℕ). walk_row c a m lo k (children_in (part m k)) (met_of c r₀)) q
            ∙ ap (walk_row c l m lo k (children_in (part m k))) (met_entered c met r₀ e)
            ∙ sym (node_walk c l m lo k (met_of c met) y)

    module _ (h : i < n) (j : ℕ) (g : j ≡ child_at m k i) where
      next : drop i (children_in (part m k)) ≡ j ∷ drop (i + 1) (children_in (part m k))
      next = rw g (next_child level m lo k x.at.walkable i (let q = x.at.count in omega arith))

      row : RowWalkable (level - 1) m low k (j ∷ drop (i + 1) (children_in (part m k)))
      row = rw next at x.at.row

      sound_row : SoundRow (level - 1) m low k (j ∷ drop (i + 1) (children_in (part m k)))
      sound_row = subst (SoundRow (level - 1) m low k) next x.sound

      -- the i-th child
      pub near_child : NearWalk (level - 1) m low j
      near_child = record {
        walk = child_walkable any_polygon any_entry level m lo k n i low x.vs x.es x.at h j g;
        sound = first_sound (level - 1) m low k j (drop (i + 1) (children_in (part m k))) row sound_row;
      }

      pub near_polygon : GoodPolygonPart m j
      near_polygon = polygon_sound (level - 1) m low j near_child (child_polygon any_polygon any_entry level m lo k n i low x.vs x.es x.at h j g)

      -- the children behind it
      others_sound : SoundRow (level - 1) m (j + 1) k (drop (i + 1) (children_in (part m k)))
      others_sound = rest_sound (level - 1) m low k j (drop (i + 1) (children_in (part m k))) row sound_row

      step : walk_row c (level - 1) m (j + 1) k (drop (i + 1) (children_in (part m k))) (child_walk c (level - 1) m low j (met_of c r))
          ≡ walk_row c (level - 1) m lo k (children_in (part m k)) (met_of c r₀)
      step =
          sym (row_walk c (level - 1) m low k j (drop (i + 1) (children_in (part m k))) (met_of c r) row)
          ∙ ap (λ (ks : List ℕ). walk_row c (level - 1) m low k ks (met_of c r)) (sym next)
          ∙ x.whole

      hit : AtChild any_polygon any_entry level m lo k n (i + 1) (j + 1) (x.vs + visits_below any_polygon (level - 1) m low j)
          (x.es ++ entries_below any_polygon any_entry (level - 1) m low j)
      hit = child_hit any_polygon any_entry level m lo k n i low x.vs x.es x.at h j g true (unfold any_polygon in refl) refl

      pub near_room : (met : Near) → GoodNear c met → r₀ ≡ with_node met → met.visits + visits_below any_polygon level m lo k ≤ 256
          → r.visits + visits_below any_polygon (level - 1) m low j ≤ 256
      near_room met gm e q = let a = hit.visits in let d = x.few in let w = ap (λ (y : Near). y.visits) e in omega arith

      pub near_good : GoodNear c r
      near_good = x.good

      module _ (d : ℕ) (di : d ≡ least_distance rect_distance c (polygon_in (part m j))) (b : Bool) (e : b ≡ enters_near r.best d) where
        test : enters index_space c (polygon_in (part m j)) (best_of r) ≡ b
        test = enters_is c (polygon_in (part m j)) r d b x.good di e

        -- the child is passed over
        pub near_miss : (r' : Near) → b ≡ false → r' ≡ r → NearLoop c level m lo k n r₀ (i + 1) (j + 1) r'
        near_miss r' f q = rw q (record {
          vs = x.vs + visits_below any_polygon (level - 1) m low j;
          es = x.es ++ entries_below any_polygon any_entry (level - 1) m low j;
          at = hit;
          good = x.good;
          sound = others_sound;
          whole =
              ap (walk_row c (level - 1) m (j + 1) k (drop (i + 1) (children_in (part m k)))) (sym (child_passed c (level - 1) m low j (met_of c r) (test ∙ f)))
              ∙ step;
          few = let a = x.few in omega arith;
        })

        -- the child is entered
        pub near_hit : (r' : Near) → b ≡ true → r' ≡ near_below c (level - 1) m low j r → NearLoop c level m lo k n r₀ (i + 1) (j + 1) r'
        near_hit r' f q =
            let u : met_of c r' ≡ walk_below c (level - 1) m low j (met_of c r) = met_near c r' (walk_below c (level - 1) m low j (met_of c r)) q in
            let l = walk_bound c (level - 1) m low j (met_of c r) near_child.walk in
            let v : r'.visits ≡ (walk_below c (level - 1) m low j (met_of c r)).entered = ap (λ (y : MetBy c). y.entered) u in
            record {
              vs = x.vs + visits_below any_polygon (level - 1) m low j;
              es = x.es ++ entries_below any_polygon any_entry (level - 1) m low j;
              at = hit;
              good = good_near c r' _ _ q;
              sound = others_sound;
              whole =
                  ap (walk_row c (level - 1) m (j + 1) k (drop (i + 1) (children_in (part m k))))
                  (u ∙ sym (child_entered c (level - 1) m low j (met_of c r) (test ∙ f)))
                  ∙ step;
              few = let a = x.few in omega arith;
            }
