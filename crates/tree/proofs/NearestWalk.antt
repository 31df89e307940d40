-- The walk gives the entry that a look at all gives, and enters at most all nodes.
use Prim.Native.Nat.{ℕ, zero, suc, ◌+◌, ◌≤◌, ◌<◌}
use mathlib.Core.Bool.{Bool, true, false, cond}
use mathlib.Core.Path.{◌≡◌, refl, sym, ap, ◌∙◌}
use mathlib.Core.List.{List, [], ◌∷◌, flat_map, foldl, foldl-append}
use mathlib.Core.Option.{Option, none, some}
use native.Mathlib.Omega.{arith}
use borrow.Author.Tests.{leb-false}
use Rattle.polygons.proofs.Booleans.{is_false, not_both}
use Rattle.tree.specs.Lists.{All, total}
use Rattle.tree.specs.Space.{Space}
use Rattle.tree.specs.Nodes.{EntryOf, Item, item_has, held, nodes}
use Rattle.tree.specs.Sound.{SoundItem}
use Rattle.tree.specs.Root.{Root}
use Rattle.tree.specs.Tree.{Index, node_count, Sound}
use Rattle.tree.specs.Nearest.{nearer, or_nearer, nearest_of, nearest, Met, start, enters, enter, walk_node, walk}
use Rattle.tree.proofs.Lists.{all_map}
use Rattle.tree.proofs.Laws.{Laws}
use Rattle.tree.proofs.Once.{held_inside}
use Rattle.tree.proofs.InsertEntries.{held_zero}
use Rattle.tree.proofs.Order.{head_le}

module _ (S : Space) (c : S.Cell) where
  -- the walk's step to one branch: it is entered or passed over
  abbrev pub to_branch : (n : ℕ) → Met S c → Item S (suc n) → Met S c
  to_branch n v b = cond (enters S c b.poly v.best) (walk_node S c n v b.child) v

  one_few : (t : Bool) (x y : Met S c) (k : ℕ) → x.entered ≤ y.entered + k → (cond t x y).entered ≤ y.entered + k
  one_few true x y k h = h
  one_few false x y k h = omega arith

  row_few : (n : ℕ) → ((b : Item S (suc n)) (v : Met S c) → (walk_node S c n v b.child).entered ≤ v.entered + nodes S (suc n) b)
      → (bs : List (Item S (suc n))) (v : Met S c) → (foldl (to_branch n) v bs).entered ≤ v.entered + total (nodes S (suc n)) bs
  unfolding total
  row_few n h [] v = omega arith
  row_few n h (b ∷ bs) v =
      let i = row_few n h bs (to_branch n v b) in
      let j = one_few (enters S c b.poly v.best) (walk_node S c n v b.child) v (nodes S (suc n) b) (h b v) in
      omega arith

  pub below_few : (n : ℕ) (items : List (Item S n)) (w : Met S c) → (walk_node S c n w items).entered ≤ suc (w.entered + total (nodes S n) items)
  unfolding walk_node nodes
  below_few zero es w = omega arith
  below_few (suc n) bs w =
      let z : (walk_node S c (suc n) w bs).entered ≤ suc w.entered + total (nodes S (suc n)) bs = row_few n (λ b v. let k = below_few n b.child v in omega arith) bs (enter S c w) in
      omega arith

  -- "Visits are at most the number of nodes."
  pub walk_few : (i : Index S) → (walk S c i).entered ≤ node_count S i
  walk_few none = omega arith
  walk_few (some t) = let z = below_few t.level t.items (start S c) in omega arith

module _ (S : Space) (W : Laws S) (c : S.Cell) where
  -- entries that are all farther than the best so far don't change it
  pub farther : (b : EntryOf S) (es : List (EntryOf S)) → All (λ e. S.distance c b.cell < S.distance c e.cell) es → nearest_of S c (some b) es ≡ some b
  unfolding or_nearer All
  farther b [] h = refl
  farther b (e ∷ es) h =
      let f : nearer S c e b ≡ false = is_false (nearer S c e b) (λ k. let l = head_le (S.distance c e.cell) (S.distance c b.cell) (S.ties e) (S.ties b) k in let g = h.0 in omega arith) in
      rw f (farther b es h.1)

  -- a branch that is passed over has no entry that is nearer
  passed : (n : ℕ) (p : S.Poly) (b : Item S (suc n)) → SoundItem S (suc n) p b → (best : Option (EntryOf S)) → enters S c b.poly best ≡ false → best ≡ nearest_of S c best (held S (suc n) b)
  unfolding enters
  passed n p b h none e = absurd (not_both true refl e)
  passed n p b h (some f) e =
      let g = leb-false (S.min_distance c b.poly) (S.distance c f.cell) e in
      sym (farther f (held S (suc n) b)
      (all_map (λ x. item_has S (suc n) b x.cell ≡ true) (λ x. S.distance c f.cell < S.distance c x.cell) (held S (suc n) b)
      (λ x i. let l = W.distance_low b.poly c x.cell (unfold item_has in i) in omega arith) (held_inside S W (suc n) p b h)))

  -- one branch, entered or passed over
  at_branch : (n : ℕ) (p : S.Poly) (b : Item S (suc n)) → SoundItem S (suc n) p b → (v : Met S c)
      → (walk_node S c n v b.child).best ≡ nearest_of S c v.best (held S (suc n) b) → (to_branch S c n v b).best ≡ nearest_of S c v.best (held S (suc n) b)
  at_branch n p b h v i = go (enters S c b.poly v.best) refl
    where
      go : (t : Bool) → enters S c b.poly v.best ≡ t → (cond t (walk_node S c n v b.child) v).best ≡ nearest_of S c v.best (held S (suc n) b)
      go true e = i
      go false e = passed n p b h v.best e

  -- branches in order
  along : (n : ℕ) (bs : List (Item S (suc n))) → All (λ b. (v : Met S c) → (to_branch S c n v b).best ≡ nearest_of S c v.best (held S (suc n) b)) bs
      → (v : Met S c) → (foldl (to_branch S c n) v bs).best ≡ nearest_of S c v.best (flat_map (held S (suc n)) bs)
  unfolding All flat_map
  along n [] h v = refl
  along n (b ∷ bs) h v =
      along n bs h.1 (to_branch S c n v b)
      ∙ ap (λ (o : Option (EntryOf S)). nearest_of S c o (flat_map (held S (suc n)) bs)) (h.0 v)
      ∙ sym (foldl-append (or_nearer S c) v.best (held S (suc n) b) (flat_map (held S (suc n)) bs))

  below_node : (n : ℕ) (p : S.Poly) (items : List (Item S n)) → All (SoundItem S n p) items → (w : Met S c)
      → (walk_node S c n w items).best ≡ nearest_of S c w.best (flat_map (held S n) items)
  unfolding walk_node SoundItem held
  below_node zero p es h w = ap (nearest_of S c w.best) (sym (held_zero S es))
  below_node (suc n) p bs h w = along n bs
      (all_map (SoundItem S (suc n) p) (λ b. (v : Met S c) → (to_branch S c n v b).best ≡ nearest_of S c v.best (held S (suc n) b)) bs
      (λ b o v. at_branch n p b o v (below_node n b.poly b.child o.each v)) h)
      (enter S c w)

  -- "Passing over may only save visits: the entry must be the one that a look at all of them gives."
  pub walk_nearest : (R : Root S) (i : Index S) → Sound S R i → (walk S c i).best ≡ nearest S c i
  walk_nearest R none s = refl
  walk_nearest R (some t) s = below_node t.level t.root t.items s.items.each (start S c)
