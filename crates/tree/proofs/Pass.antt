-- One pass as code does it gives the same: sides applied at once, lines from the entries in any order.
use Prim.Native.Nat.{ℕ, zero, suc}
use mathlib.Core.Bool.{Bool, true, false, ◌&&◌, cond}
use mathlib.Core.Path.{◌≡◌, refl, sym, ap, ◌∙◌}
use mathlib.Core.List.{List, [], ◌∷◌, ◌++◌, append-nil, map, flat_map}
use lib.ListN.{length}
use lib.Dec.{leb}
use native.Mathlib.Omega.{arith}
use Rattle.polygons.proofs.ListLaws.{flat_map_append}
use Rattle.tree.specs.Lists.{keep, count_of, Bag}
use Rattle.tree.specs.Space.{Space, Side, left, right}
use Rattle.tree.specs.Nodes.{EntryOf, Item, on, entry_on, held}
use Rattle.tree.specs.Split.{half}
use Rattle.tree.specs.Plan.{Way, flat, group_if, cut_groups, groups, few, line_at, under, branch_under}
use Rattle.tree.specs.Pass.{on_all, deep, way_held, plain_few, plain_line, cut_plain, plain, Alike}
use Rattle.tree.specs.Plan as P
use Rattle.tree.proofs.Lists.{flat_map_one}
use Rattle.tree.proofs.Counts.{count_of_append}
use Rattle.tree.proofs.Bags.{bag_keep, bag_length}
use Rattle.tree.proofs.InsertEntries.{held_zero, count_of_sides}
use Rattle.tree.proofs.OnePass.{under_append, under_none, under_branch, flat_held}

module _ (S : Space) where
  -- entries under sides, at once
  under_one : (ss : List (Side S.Line)) (e : EntryOf S) → under S zero ss (e ∷ []) ≡ cond (on_all S ss e) (e ∷ []) []
  unfolding under on_all half
  under_one [] e = refl
  under_one (s ∷ ss) e = ap (under S zero ss) (flat_map_one (half S zero s) e) ∙ go (on S s e.cell) (under_one ss e)
    where
      go : (b : Bool) → under S zero ss (e ∷ []) ≡ cond (on_all S ss e) (e ∷ []) [] → under S zero ss (cond b (e ∷ []) []) ≡ cond (b && on_all S ss e) (e ∷ []) []
      go true i = i
      go false i = under_none S zero ss

  row_deep_lem : (n : ℕ) (ss : List (Side S.Line)) → ((x : Item S n) → under S n ss (x ∷ []) ≡ deep S n ss x) → (l : List (Item S n)) → under S n ss l ≡ flat_map (deep S n ss) l
  unfolding flat_map
  row_deep_lem n ss h [] = under_none S n ss
  row_deep_lem n ss h (x ∷ l) = under_append S n ss (x ∷ []) l ∙ rw (h x, row_deep_lem n ss h l)

  one_deep : (n : ℕ) (ss : List (Side S.Line)) (x : Item S n) → under S n ss (x ∷ []) ≡ deep S n ss x
  unfolding deep
  one_deep zero ss e = under_one ss e
  one_deep (suc n) ss b = under_branch S n ss b.poly b.child ∙ ap (branch_under S ss b.poly) (row_deep_lem n ss (one_deep n ss) b.child)

  -- The pass over what is off the way.
  pub under_deep : (n : ℕ) (ss : List (Side S.Line)) (l : List (Item S n)) → under S n ss l ≡ flat_map (deep S n ss) l
  under_deep n ss l = row_deep_lem n ss (one_deep n ss) l

  -- the order inside groups does not matter
  pub alike_self : (gs : List (List (EntryOf S))) → Alike S gs gs
  alike_self [] = tt
  alike_self (g ∷ gs) = (λ q. refl, alike_self gs)

  alike_append : (a b c d : List (List (EntryOf S))) → Alike S a b → Alike S c d → Alike S (a ++ c) (b ++ d)
  alike_append [] [] c d h k = k
  alike_append [] (x ∷ b) c d h k = absurd h
  alike_append (x ∷ a) [] c d h k = absurd h
  alike_append (x ∷ a) (y ∷ b) c d h k = (h.0, alike_append a b c d h.1 k)

  alike_length : (a b : List (List (EntryOf S))) → Alike S a b → length a ≡ length b
  alike_length [] [] h = refl
  alike_length [] (x ∷ b) h = absurd h
  alike_length (x ∷ a) [] h = absurd h
  alike_length (x ∷ a) (y ∷ b) h = ap suc (alike_length a b h.1)

  alike_if : (g h : List (EntryOf S)) → Bag g h → Alike S (group_if S g) (group_if S h)
  alike_if [] [] b = tt
  alike_if [] (x ∷ h) b = let l : 0 ≡ suc (length h) = bag_length [] (x ∷ h) b in absurd (omega arith)
  alike_if (x ∷ g) [] b = let l : suc (length g) ≡ 0 = bag_length (x ∷ g) [] b in absurd (omega arith)
  alike_if (x ∷ g) (y ∷ h) b = (b, tt)

  flat_append : (a b : List (List (EntryOf S))) → flat S (a ++ b) ≡ flat S a ++ flat S b
  unfolding flat
  flat_append a b = flat_map_append (λ g. g) a b

  flat_if : (g : List (EntryOf S)) → flat S (group_if S g) ≡ g
  unfolding flat flat_map
  flat_if [] = refl
  flat_if (e ∷ g) = append-nil (e ∷ g)

  flat_one : (g : List (EntryOf S)) → flat S (g ∷ []) ≡ g
  unfolding flat flat_map
  flat_one g = append-nil g

  -- the entries of the row are those below the node
  bag_cut : (n : ℕ) (gs : List (List (EntryOf S))) → Bag (flat S (cut_groups S n gs)) (flat S gs)
  bag_cut n gs q = go (P.few_of S n gs)
    where
      l : S.Line
      l = P.line_for S n gs

      go : (b : Bool) → count_of q (flat S (cond b (flat S gs ∷ []) (group_if S (keep (entry_on S (left l)) (flat S gs)) ++ group_if S (keep (entry_on S (right l)) (flat S gs))))) ≡ count_of q (flat S gs)
      go true = ap (count_of q) (flat_one (flat S gs))
      go false = simp (flat_append, flat_if, count_of_append) (count_of_sides S q l (flat S gs))

  pub bag_way : (n : ℕ) (w : Way S n) → Bag (flat S (groups S n w)) (way_held S n w)
  unfolding groups way_held
  bag_way zero es q = ap (count_of q) (flat_held S zero es ∙ held_zero S es)
  bag_way (suc n) w q =
      let i = bag_way n w.below q in
      let c = bag_cut n (groups S n w.below) q in
      simp (flat_append, count_of_append, flat_held) (omega arith)

  module _ (node_same : (gs hs : List (List (EntryOf S))) → Alike S gs hs → S.node_line gs ≡ S.node_line hs) where
    line_same : (n : ℕ) (gs hs : List (List (EntryOf S))) (w : Way S n) → Alike S gs hs → flat S hs ≡ flat S (groups S n w) → plain_line S n gs (way_held S n w) ≡ P.line_for S n hs
    unfolding way_held groups
    line_same zero gs hs es a f = ap S.leaf_line (sym (f ∙ flat_held S zero es ∙ held_zero S es))
    line_same (suc n) gs hs w a f = node_same gs hs a

    alike_cut : (n : ℕ) (gs : List (List (EntryOf S))) (w : Way S n) → Alike S gs (groups S n w) → Alike S (cut_plain S n gs (way_held S n w)) (cut_groups S n (groups S n w))
    alike_cut n gs w a = rw (alike_length gs (groups S n w) a, line_same n gs (groups S n w) w a refl) (go (leb (length (groups S n w)) S.most))
      where
        l : S.Line
        l = line_at S n w

        back : Bag (way_held S n w) (flat S (groups S n w))
        back q = sym (bag_way n w q)

        half : (s : Side S.Line) → Alike S (group_if S (keep (entry_on S s) (way_held S n w))) (group_if S (keep (entry_on S s) (flat S (groups S n w))))
        half s = alike_if (keep (entry_on S s) (way_held S n w)) (keep (entry_on S s) (flat S (groups S n w))) (bag_keep (entry_on S s) (way_held S n w) (flat S (groups S n w)) back)

        go : (b : Bool) → Alike S (cond b (way_held S n w ∷ []) (group_if S (keep (entry_on S (left l)) (way_held S n w)) ++ group_if S (keep (entry_on S (right l)) (way_held S n w))))
            (cond b (flat S (groups S n w) ∷ []) (group_if S (keep (entry_on S (left l)) (flat S (groups S n w))) ++ group_if S (keep (entry_on S (right l)) (flat S (groups S n w)))))
        go true = (back, tt)
        go false = alike_append (group_if S (keep (entry_on S (left l)) (way_held S n w))) (group_if S (keep (entry_on S (left l)) (flat S (groups S n w)))) (group_if S (keep (entry_on S (right l)) (way_held S n w))) (group_if S (keep (entry_on S (right l)) (flat S (groups S n w)))) (half (left l)) (half (right l))

    -- The plan from the entries of the tree before.
    pub plain_alike : (n : ℕ) (w : Way S n) → Alike S (plain S n w) (groups S n w)
    unfolding plain groups
    plain_alike zero es = alike_self (map (held S zero) es)
    plain_alike (suc n) w =
        alike_append (map (held S (suc n)) w.before) (map (held S (suc n)) w.before) _ _ (alike_self (map (held S (suc n)) w.before))
        (alike_append (cut_plain S n (plain S n w.below) (way_held S n w.below)) (cut_groups S n (groups S n w.below)) _ _ (alike_cut n (plain S n w.below) w.below (plain_alike n w.below)) (alike_self (map (held S (suc n)) w.after)))

    pub plain_line_lem : (n : ℕ) (w : Way S n) → plain_line S n (plain S n w) (way_held S n w) ≡ line_at S n w
    plain_line_lem n w = line_same n (plain S n w) (groups S n w) w (plain_alike n w) refl

    pub plain_few_lem : (n : ℕ) (w : Way S n) → plain_few S (plain S n w) ≡ few S n w
    plain_few_lem n w = ap (λ (k : ℕ). leb k S.most) (alike_length (plain S n w) (groups S n w) (plain_alike n w))
