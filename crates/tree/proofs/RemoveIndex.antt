-- Removal from the whole index: sound, the entries without that one, no more nodes; the last removal empties it.
use Prim.Native.Nat.{ℕ, zero, suc, ◌+◌, ◌≤◌}
use mathlib.Core.Bool.{Bool, true, false, cond}
use mathlib.Core.Path.{◌≡◌, refl, ap, ◌∙◌}
use mathlib.Core.List.{List, [], ◌∷◌, flat_map}
use mathlib.Core.Option.{none, some}
use lib.ListN.{length, length-append}
use native.Mathlib.Omega.{arith}
use Rattle.tree.specs.Lists.{keep, total, All, count_of}
use Rattle.tree.specs.Space.{Space}
use Rattle.tree.specs.Nodes.{EntryOf, Item, held, nodes}
use Rattle.tree.specs.Sound.{SoundItem, SoundItems}
use Rattle.tree.specs.Root.{Root}
use Rattle.tree.specs.Tree.{Tree, Index, entries, node_count, SoundTree, Sound, top}
use Rattle.tree.specs.Split.{branch_if}
use Rattle.tree.specs.Remove.{prune, other, without, tree_if, remove}
use Rattle.tree.specs.Depth.{item_polygons, polygons}
use Rattle.tree.proofs.Lists.{all_map}
use Rattle.tree.proofs.Counts.{total_append}
use Rattle.tree.proofs.Laws.{Laws}
use Rattle.tree.proofs.Visits.{visits_step}
use Rattle.tree.proofs.Remove.{remove_row, remove_count}
use Rattle.tree.proofs.Prune.{held_prunes}
use Rattle.tree.proofs.Depth.{top_sound}

module _ (S : Space) where
  -- A sound item holds an entry.
  pub held_some : (n : ℕ) (p : S.Poly) (x : Item S n) → SoundItem S n p x → 1 ≤ length (held S n x)
  unfolding held SoundItem
  held_some zero p e h = omega arith
  held_some (suc n) p b h = go b.child h.count.0 (all_map (SoundItem S n b.poly) (λ x. 1 ≤ length (held S n x)) b.child (held_some n b.poly) h.each)
    where
      go : (l : List (Item S n)) → 1 ≤ length l → All (λ x. 1 ≤ length (held S n x)) l → 1 ≤ length (flat_map (held S n) l)
      go [] o k = absurd (omega arith)
      go (x ∷ l) o k = unfold All flat_map in let a = length-append (held S n x) (flat_map (held S n) l) in let m = k.0 in omega arith

  -- A sound tree that is not empty holds an entry.
  pub entries_some : (R : Root S) (t : Tree S) → SoundTree S R t → 1 ≤ length (entries S (some t))
  entries_some R t s = unfold held in held_some (suc t.level) t.root (top S t) (top_sound S R t s)

  tree_if_entries : (n : ℕ) (p : S.Poly) (l : List (Item S n)) → entries S (tree_if S n p l) ≡ flat_map (held S n) l
  tree_if_entries n p [] = unfold flat_map in refl
  tree_if_entries n p (x ∷ l) = refl

  tree_if_nodes : (n : ℕ) (p : S.Poly) (l : List (Item S n)) → node_count S (tree_if S n p l) ≤ 1 + total (nodes S n) l
  tree_if_nodes n p [] = omega arith
  tree_if_nodes n p (x ∷ l) = omega arith

  -- Pruning gives no more nodes.
  total_flat_map_le : {A B : Type 0} (f : A → List B) (g : B → ℕ) (h : A → ℕ) (l : List A) → ((a : A) → total g (f a) ≤ h a) → total g (flat_map f l) ≤ total h l
  unfolding flat_map total
  total_flat_map_le f g h [] k = omega arith
  total_flat_map_le f g h (a ∷ l) k =
      let i = total_flat_map_le f g h l k in let j = k a in
      rw (total_append g (f a) (flat_map f l)) (omega arith)

  nodes_if : (n : ℕ) (p : S.Poly) (l : List (Item S n)) → total (nodes S (suc n)) (branch_if S p l) ≤ 1 + total (nodes S n) l
  unfolding total nodes
  nodes_if n p [] = omega arith
  nodes_if n p (x ∷ l) = omega arith

  branch_polygons : (f : S.Poly → Bool) (n : ℕ) (p : S.Poly) (l : List (Item S n)) → total (λ y. count_of f (item_polygons S (suc n) y)) (branch_if S p l) ≤ cond (f p) 1 0 + total (λ y. count_of f (item_polygons S n y)) l
  branch_polygons f n p [] = unfold total in omega arith
  branch_polygons f n p (x ∷ l) = let k = visits_step S f n (record { poly = p; child = x ∷ l }) in unfold total in omega arith

  tree_if_polygons : (f : S.Poly → Bool) (n : ℕ) (p : S.Poly) (l : List (Item S n)) → count_of f (polygons S (tree_if S n p l)) ≤ cond (f p) 1 0 + total (λ y. count_of f (item_polygons S n y)) l
  tree_if_polygons f n p [] = unfold keep in omega arith
  tree_if_polygons f n p (x ∷ l) = let k = visits_step S f n (record { poly = p; child = x ∷ l }) in omega arith

  prune_nodes : (n : ℕ) (t : EntryOf S → Bool) (q : S.Poly → S.Poly) (x : Item S n) → total (nodes S n) (prune S n t q x) ≤ nodes S n x
  unfolding prune nodes
  prune_nodes zero t q e = go (t e)
    where
      go : (b : Bool) → total (nodes S zero) (cond b (e ∷ []) []) ≤ 0
      go true = unfold total nodes in omega arith
      go false = unfold total in omega arith
  prune_nodes (suc n) t q b =
      let i = nodes_if n (q b.poly) (flat_map (prune S n t q) b.child) in
      let j = total_flat_map_le (prune S n t q) (nodes S n) (nodes S n) b.child (prune_nodes n t q) in
      omega arith

  -- The entries after are those of other cells, in their order.
  pub remove_entries : (c : S.Cell) (i : Index S) → entries S (remove S c i) ≡ keep (other S c) (entries S i)
  remove_entries c none = unfold keep in refl
  remove_entries c (some t) = tree_if_entries t.level t.root (without S t.level c t.items) ∙ held_prunes S (other S c) (λ p. p) t.level t.items

  -- Nodes do not rise.
  pub remove_nodes : (c : S.Cell) (i : Index S) → node_count S (remove S c i) ≤ node_count S i
  remove_nodes c none = omega arith
  remove_nodes c (some t) =
      let a = tree_if_nodes t.level t.root (without S t.level c t.items) in
      let b = total_flat_map_le (prune S t.level (other S c) (λ p. p)) (nodes S t.level) (nodes S t.level) t.items (prune_nodes t.level (other S c) (λ p. p)) in
      omega arith

  -- "Polygons don't shrink": what is left has polygons from before, each at most as often; the root keeps its own, and the height stays.
  keep_polygons : (f : S.Poly → Bool) (n : ℕ) (t : EntryOf S → Bool) (x : Item S n) → total (λ y. count_of f (item_polygons S n y)) (prune S n t (λ p. p) x) ≤ count_of f (item_polygons S n x)
  unfolding prune
  keep_polygons f zero t e = go (t e)
    where
      go : (b : Bool) → total (λ y. count_of f (item_polygons S zero y)) (cond b (e ∷ []) []) ≤ count_of f (item_polygons S zero e)
      go true = unfold total item_polygons keep in omega arith
      go false = unfold total in omega arith
  keep_polygons f (suc n) t b =
      let a = branch_polygons f n b.poly (flat_map (prune S n t (λ p. p)) b.child) in
      let j = total_flat_map_le (prune S n t (λ p. p)) (λ y. count_of f (item_polygons S n y)) (λ y. count_of f (item_polygons S n y)) b.child (keep_polygons f n t) in
      let k = visits_step S f n b in
      omega arith

  pub remove_polygons : (f : S.Poly → Bool) (c : S.Cell) (i : Index S) → count_of f (polygons S (remove S c i)) ≤ count_of f (polygons S i)
  remove_polygons f c none = omega arith
  remove_polygons f c (some t) =
      let a = tree_if_polygons f t.level t.root (without S t.level c t.items) in
      let j = total_flat_map_le (prune S t.level (other S c) (λ p. p)) (λ y. count_of f (item_polygons S t.level y)) (λ y. count_of f (item_polygons S t.level y)) t.items (keep_polygons f t.level (other S c)) in
      let k = visits_step S f t.level (top S t) in
      omega arith

  pub remove_root : (c : S.Cell) (t t' : Tree S) → remove S c (some t) ≡ some t' → (t'.root ≡ t.root) × (t'.level ≡ t.level)
  remove_root c t t' h = go (without S t.level c t.items) h
    where
      go : (l : List (Item S t.level)) → tree_if S t.level t.root l ≡ some t' → (t'.root ≡ t.root) × (t'.level ≡ t.level)
      go [] h = let z : ◌≡◌ {A = ℕ} 0 1 = cc in absurd (omega arith)
      go (x ∷ l) h = let q : t' ≡ record { level = t.level; root = t.root; items = x ∷ l } = cc in (rw q, rw q)

  module _ (W : Laws S) (R : Root S) where
    tree_if_sound : (n : ℕ) (p : S.Poly) (l : List (Item S n)) → S.Fine p → R.One p → length l ≤ S.most → SoundItems S n p l → Sound S R (tree_if S n p l)
    tree_if_sound n p [] f o m r = tt
    tree_if_sound n p (x ∷ l) f o m r = record { fine = f; one = o; count = (omega arith, m); items = r }

    -- Removal keeps the index sound.
    pub remove_sound : (c : S.Cell) (i : Index S) → Sound S R i → Sound S R (remove S c i)
    remove_sound c none s = tt
    remove_sound c (some t) s =
        let a = remove_count S W t.level c t.items in
        let m = s.count.1 in
        tree_if_sound t.level t.root (without S t.level c t.items) s.fine s.one (omega arith) (remove_row S W t.level c t.root t.items s.items)

    -- A sound index without entries is the empty one.
    pub empty_none : (i : Index S) → Sound S R i → entries S i ≡ [] → i ≡ none
    empty_none none s e = refl
    empty_none (some t) s e = let a = entries_some R t s in let b = ap length e in absurd (omega arith)

    -- "The last removal" leaves the empty index.
    pub remove_last : (c : S.Cell) (i : Index S) → Sound S R i → keep (other S c) (entries S i) ≡ [] → remove S c i ≡ none
    remove_last c i s e = empty_none (remove S c i) (remove_sound c i s) (remove_entries c i ∙ e)
