-- Insertion is: down the path, then build; and building is writing in one pass under ordered sides.
use Prim.Native.Nat.{ℕ, zero, suc, ◌≤◌}
use mathlib.Core.Bool.{Bool, true, false, cond}
use mathlib.Core.Path.{◌≡◌, refl, sym, ap, ◌∙◌}
use mathlib.Core.List.{List, [], ◌∷◌, ◌++◌, append-nil, map, flat_map, map-append}
use mathlib.Core.Option.{Option, none, some, bind}
use lib.ListN.{length, length-map}
use lib.Dec.{leb}
use native.Mathlib.Omega.{arith}
use Rattle.polygons.proofs.ListLaws.{flat_map_append}
use Rattle.tree.specs.Lists.{keep, All, not_empty}
use Rattle.tree.specs.Space.{Space, Side, left, right, Chosen}
use Rattle.tree.specs.Nodes.{EntryOf, Item, entry_on, held}
use Rattle.tree.specs.Split.{branch_if, half, half_items, line_of, halves, split}
use Rattle.tree.specs.Insert.{insert_at}
use Rattle.tree.specs.Plan.{Way, descend, row, build, flat, line_for, group_if, cut_groups, groups, few, line_at, under, clips, branch_under, cut_into, write_row, write}
use Rattle.tree.proofs.Lists.{flat_map_one}
use Rattle.tree.proofs.Halves.{half_one, held_half}
use Rattle.tree.proofs.Fits.{half_holds}
use Rattle.tree.proofs.InsertEntries.{held_zero}

module _ (S : Space) where
  -- insertion is: descend, then build
  pub insert_is : (n : ℕ) (p : S.Poly) (items : List (Item S n)) (e : EntryOf S) → insert_at S n p items e ≡ bind (descend S n p items e) (λ w. some (build S n p w))
  unfolding insert_at descend bind row
  insert_is zero p es e = refl
  insert_is (suc n) p bs e = outer (λ ch. insert_is n ch.grown ch.old.child e) (S.choose p bs e.cell)
    where
      inner : (ch : Chosen S.Poly (Item S n)) (m : Option (Way S n)) →
          bind (bind m (λ w. some (build S n ch.grown w))) (λ got. some (split S (suc n) p (ch.before ++ (got ++ ch.after))))
          ≡ bind (bind m (λ w. some (record { before = ch.before; grown = ch.grown; below = w; after = ch.after }))) (λ w. some (build S (suc n) p w))
      inner ch none = refl
      inner ch (some w) = refl

      outer : ((ch : Chosen S.Poly (Item S n)) → insert_at S n ch.grown ch.old.child e ≡ bind (descend S n ch.grown ch.old.child e) (λ w. some (build S n ch.grown w))) → (m : Option (Chosen S.Poly (Item S n))) →
          bind m (λ ch. bind (insert_at S n ch.grown ch.old.child e) λ got. some (split S (suc n) p (ch.before ++ (got ++ ch.after))))
          ≡ bind (bind m (λ ch. bind (descend S n ch.grown ch.old.child e) λ w. some (record { before = ch.before; grown = ch.grown; below = w; after = ch.after }))) (λ w. some (build S (suc n) p w))
      outer ih none = refl
      outer ih (some ch) = ap (λ m. bind m (λ got. some (split S (suc n) p (ch.before ++ (got ++ ch.after))))) (ih ch) ∙ inner ch (descend S n ch.grown ch.old.child e)

  -- sides, one after another
  pub under_none : (n : ℕ) (ss : List (Side S.Line)) → under S n ss [] ≡ []
  unfolding under flat_map
  under_none n [] = refl
  under_none n (s ∷ ss) = under_none n ss

  pub under_append : (n : ℕ) (ss : List (Side S.Line)) (l m : List (Item S n)) → under S n ss (l ++ m) ≡ under S n ss l ++ under S n ss m
  unfolding under
  under_append n [] l m = refl
  under_append n (s ∷ ss) l m = rw (flat_map_append (half S n s) l m) (under_append n ss (half_items S n s l) (half_items S n s m))

  pub under_if : (n : ℕ) (ss : List (Side S.Line)) (p : S.Poly) (l : List (Item S n)) → under S (suc n) ss (branch_if S p l) ≡ branch_if S (clips S ss p) (under S n ss l)
  unfolding under clips half
  under_if n [] p l = refl
  under_if n (s ∷ ss) p [] = under_none (suc n) (s ∷ ss) ∙ ap (branch_if S (clips S (s ∷ ss) p)) (sym (under_none n (s ∷ ss)))
  under_if n (s ∷ ss) p (x ∷ l) = ap (under S (suc n) ss) (flat_map_one (half S (suc n) s) (record { poly = p; child = x ∷ l })) ∙ under_if n ss (S.clip s p) (half_items S n s (x ∷ l))

  pub under_branch : (n : ℕ) (ss : List (Side S.Line)) (p : S.Poly) (l : List (Item S n)) → under S (suc n) ss (record { poly = p; child = l } ∷ []) ≡ branch_under S ss p (under S n ss l)
  unfolding under clips half
  under_branch n [] p l = refl
  under_branch n (s ∷ ss) p l = ap (under S (suc n) ss) (flat_map_one (half S (suc n) s) (record { poly = p; child = l })) ∙ under_if n ss (S.clip s p) (half_items S n s l)

  under_half : (n : ℕ) (s : Side S.Line) (ss : List (Side S.Line)) (p : S.Poly) (l : List (Item S n)) → under S (suc n) ss (half S (suc n) s (record { poly = p; child = l })) ≡ branch_under S (s ∷ ss) p (under S n (s ∷ ss) l)
  unfolding under clips half
  under_half n s ss p l = under_if n ss (S.clip s p) (half_items S n s l)

  pub under_split : (n : ℕ) (ss : List (Side S.Line)) (p : S.Poly) (l : List (Item S n)) → under S (suc n) ss (split S n p l) ≡ cut_into S (leb (length l) S.most) (line_of S n l) p (λ ts. under S n ts l) ss
  unfolding split
  under_split n ss p l = go (leb (length l) S.most)
    where
      b : Item S (suc n)
      b = record { poly = p; child = l }

      go : (t : Bool) → under S (suc n) ss (cond t (b ∷ []) (halves S n (line_of S n l) b)) ≡ cut_into S t (line_of S n l) p (λ ts. under S n ts l) ss
      go true = under_branch n ss p l
      go false = under_append (suc n) ss (half S (suc n) (left (line_of S n l)) b) (half S (suc n) (right (line_of S n l)) b) ∙ rw (under_half n (left (line_of S n l)) ss p l, under_half n (right (line_of S n l)) ss p l)

  -- the plan is computed from entries
  pub flat_held : (n : ℕ) (l : List (Item S n)) → flat S (map (held S n) l) ≡ flat_map (held S n) l
  unfolding flat flat_map
  flat_held n [] = refl
  flat_held n (x ∷ l) = ap (λ y. held S n x ++ y) (flat_held n l)

  line_is : (n : ℕ) (l : List (Item S n)) → line_for S n (map (held S n) l) ≡ line_of S n l
  line_is zero es = ap S.leaf_line (flat_held zero es ∙ held_zero S es)
  line_is (suc n) bs = refl

  group_if_lem : (n : ℕ) (l : List (Item S n)) → length l ≤ 1 → All (λ y. not_empty (held S n y) ≡ true) l → map (held S n) l ≡ group_if S (flat_map (held S n) l)
  unfolding flat_map All
  group_if_lem n [] o h = refl
  group_if_lem n (x ∷ []) o h = go (held S n x) h.0
    where
      go : (es : List (EntryOf S)) → not_empty es ≡ true → es ∷ [] ≡ group_if S (es ++ [])
      go [] k = let z : ◌≡◌ {A = ℕ} 0 1 = cc in absurd (omega arith)
      go (e ∷ es) k = ap (λ (y : List (EntryOf S)). (e ∷ y) ∷ []) (sym (append-nil es))
  group_if_lem n (x ∷ y ∷ l) o h = absurd (omega arith)

  group_half : (n : ℕ) (s : Side S.Line) (x : Item S n) → map (held S n) (half S n s x) ≡ group_if S (keep (entry_on S s) (held S n x))
  group_half n s x = group_if_lem n (half S n s x) (half_one S n s x) (half_holds S n s x) ∙ ap (group_if S) (held_half S n s x)

  groups_split : (n : ℕ) (p : S.Poly) (l : List (Item S n)) → map (held S (suc n)) (split S n p l) ≡ cut_groups S n (map (held S n) l)
  unfolding split held
  groups_split n p l = rw (length-map l (held S n), line_is n l, flat_held n l) (go (leb (length l) S.most))
    where
      b : Item S (suc n)
      b = record { poly = p; child = l }

      k : S.Line
      k = line_of S n l

      go : (t : Bool) → map (held S (suc n)) (cond t (b ∷ []) (halves S n k b))
          ≡ cond t (flat_map (held S n) l ∷ []) (group_if S (keep (entry_on S (left k)) (flat_map (held S n) l)) ++ group_if S (keep (entry_on S (right k)) (flat_map (held S n) l)))
      go true = refl
      go false = map-append (held S (suc n)) (half S (suc n) (left k) b) (half S (suc n) (right k) b) ∙ rw (group_half (suc n) (left k) b, group_half (suc n) (right k) b)

  -- the planned groups are those of the items
  pub groups_is : (n : ℕ) (w : Way S n) → groups S n w ≡ map (held S n) (row S n w)
  unfolding groups row
  groups_is zero es = refl
  groups_is (suc n) w =
      rw (groups_is n w.below, ← groups_split n w.grown (row S n w.below), map-append)
      (ap (λ x. map (held S (suc n)) w.before ++ x) (sym (map-append (held S (suc n)) (split S n w.grown (row S n w.below)) w.after)))

  -- the plan's test and line at a node of the way, by its row
  pub few_row : (n : ℕ) (w : Way S n) → few S n w ≡ leb (length (row S n w)) S.most
  few_row n w = rw (groups_is n w, length-map (row S n w) (held S n))

  pub line_row : (n : ℕ) (w : Way S n) → line_at S n w ≡ line_of S n (row S n w)
  line_row n w = ap (line_for S n) (groups_is n w) ∙ line_is n (row S n w)

  cut_same : {A : Type 0} (b : Bool) (l : S.Line) (p : S.Poly) (f g : List (Side S.Line) → List A) (ss : List (Side S.Line)) → ((ts : List (Side S.Line)) → f ts ≡ g ts) → cut_into S b l p f ss ≡ cut_into S b l p g ss
  cut_same b l p f g ss h = rw (h ss, h (left l ∷ ss), h (right l ∷ ss))

  -- One pass under the plan gives what the splits from the leaf up give.
  pub write_row_lem : (n : ℕ) (ss : List (Side S.Line)) (w : Way S n) → write_row S n ss w ≡ under S n ss (row S n w)
  unfolding write_row row
  write_row_lem zero ss es = refl
  write_row_lem (suc n) ss w =
      rw (
        few_row n w.below,
        line_row n w.below,
        cut_same (leb (length (row S n w.below)) S.most) (line_of S n (row S n w.below)) w.grown (λ ts. write_row S n ts w.below) (λ ts. under S n ts (row S n w.below)) ss (λ ts. write_row_lem n ts w.below),
        ← under_split n ss w.grown (row S n w.below),
        under_append (suc n) ss w.before (split S n w.grown (row S n w.below) ++ w.after),
        under_append (suc n) ss (split S n w.grown (row S n w.below)) w.after,
      )

  pub write_is : (n : ℕ) (ss : List (Side S.Line)) (p : S.Poly) (w : Way S n) → write S n ss p w ≡ under S (suc n) ss (build S n p w)
  write_is n ss p w =
      rw (few_row n w, line_row n w)
      (cut_same (leb (length (row S n w)) S.most) (line_of S n (row S n w)) p (λ ts. write_row S n ts w) (λ ts. under S n ts (row S n w)) ss (λ ts. write_row_lem n ts w)
      ∙ sym (under_split n ss p (row S n w)))

  -- so writing under no sides is building
  pub write_all : (n : ℕ) (p : S.Poly) (w : Way S n) → write S n [] p w ≡ build S n p w
  write_all n p w = write_is n [] p w ∙ unfold under in refl
