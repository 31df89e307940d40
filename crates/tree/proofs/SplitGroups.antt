-- The entries of the two halves of a node that is split, and of the row that they stand in.
use Prim.Native.Nat.{ℕ, suc, ◌<◌, ◌≤◌}
use mathlib.Core.Path.{◌≡◌, refl, sym, ap, ◌∙◌}
use mathlib.Core.List.{List, [], ◌∷◌, ◌++◌, map, flat_map, map-append}
use lib.ListN.{length, length-append}
use native.Mathlib.Omega.{arith}
use borrow.Author.Tests.{le-leb, lt-leb}
use Rattle.tree.specs.Lists.{All, keep, count_of, Bag}
use Rattle.tree.specs.Space.{Space, Side, left, right}
use Rattle.tree.specs.Nodes.{EntryOf, Item, entry_on, held}
use Rattle.tree.specs.Split.{branch_if, half, half_items, line_of, halves, split}
use Rattle.tree.specs.Plan.{Way, row, flat}
use Rattle.tree.specs.Pass.{way_held, Alike}
use Rattle.tree.proofs.Lists.{flat_map_flat_map, flat_map_same, keep_flat_map}
use Rattle.tree.proofs.Halves.{held_half}
use Rattle.tree.proofs.Fits.{FitAt}
use Rattle.tree.proofs.OnePass.{groups_is, flat_held}
use Rattle.tree.proofs.Pass.{bag_way, alike_self}
use Rattle.tree.proofs.Sides.{length_branch_if}

module _ (S : Space) where
  -- the entries of the halves of some items are those of the side, in order
  held_halves : (n : ℕ) (s : Side S.Line) (l : List (Item S n)) → flat_map (held S n) (half_items S n s l) ≡ keep (entry_on S s) (flat_map (held S n) l)
  held_halves n s l =
      flat_map_flat_map (held S n) (half S n s) l ∙ flat_map_same (λ x. flat_map (held S n) (half S n s x)) (λ x. keep (entry_on S s) (held S n x)) l (held_half S n s)
      ∙ sym (keep_flat_map (entry_on S s) (held S n) l)

  held_if : (n : ℕ) (q : S.Poly) (l : List (Item S n)) → 1 ≤ length l → map (held S (suc n)) (branch_if S q l) ≡ flat_map (held S n) l ∷ []
  unfolding held
  held_if n q [] h = absurd (omega arith)
  held_if n q (x ∷ l) h = refl

  module _ (n : ℕ) (p : S.Poly) (l : List (Item S n)) (o : S.most < length l) (f : FitAt S n (line_of S n l) l) where
    abbrev whole : Item S (suc n)
    whole = record { poly = p; child = l }

    split_is : split S n p l ≡ halves S n (line_of S n l) whole
    unfolding split
    split_is = rw (lt-leb (length l) S.most o)

    -- the groups of the two halves
    pub split_groups : map (held S (suc n)) (split S n p l) ≡ keep (entry_on S (left (line_of S n l))) (flat_map (held S n) l) ∷ keep (entry_on S (right (line_of S n l))) (flat_map (held S n) l) ∷ []
    unfolding half
    split_groups =
        ap (map (held S (suc n))) split_is ∙ map-append (held S (suc n)) (half S (suc n) (left (line_of S n l)) whole) (half S (suc n) (right (line_of S n l)) whole)
        ∙ rw (held_if n (S.clip (left (line_of S n l)) p) (half_items S n (left (line_of S n l)) l) f.lefts.0, held_if n (S.clip (right (line_of S n l)) p) (half_items S n (right (line_of S n l)) l) f.rights.0, held_halves n (left (line_of S n l)) l, held_halves n (right (line_of S n l)) l)

    -- there are two
    pub split_two : length (split S n p l) ≡ 2
    unfolding half
    split_two =
        ap length split_is ∙ length-append (half S (suc n) (left (line_of S n l)) whole) (half S (suc n) (right (line_of S n l)) whole)
        ∙ rw (length_branch_if S (S.clip (left (line_of S n l)) p) (half_items S n (left (line_of S n l)) l) f.lefts.0, length_branch_if S (S.clip (right (line_of S n l)) p) (half_items S n (right (line_of S n l)) l) f.rights.0)

  -- one where the node is not split
  pub split_one : (n : ℕ) (p : S.Poly) (l : List (Item S n)) → length l ≤ S.most → length (split S n p l) ≡ 1
  unfolding split
  split_one n p l h = rw (le-leb (length l) S.most h)

  -- the entries of the row are those below the way, in some order
  pub row_entries_lem : (n : ℕ) (w : Way S n) → Bag (flat_map (held S n) (row S n w)) (way_held S n w)
  row_entries_lem n w q = ap (count_of q) (sym (ap (flat S) (groups_is S n w) ∙ flat_held S n (row S n w))) ∙ bag_way S n w q

  -- two groups of a row replaced by groups with the same entries
  pub alike_mid : (a c : List (List (EntryOf S))) (x y x' y' : List (EntryOf S)) → Bag x x' → Bag y y' → Alike S (a ++ ((x ∷ y ∷ []) ++ c)) (a ++ ((x' ∷ y' ∷ []) ++ c))
  alike_mid [] c x y x' y' h k = (h, (k, alike_self S c))
  alike_mid (g ∷ a) c x y x' y' h k = ((λ q. refl), alike_mid a c x y x' y' h k)

  pub alike_all : (P Q : List (EntryOf S) → Type 0) → ((g h : List (EntryOf S)) → Bag g h → P h → Q g) → (gs hs : List (List (EntryOf S))) → Alike S gs hs → All P hs → All Q gs
  unfolding All
  alike_all P Q f [] [] a h = tt
  alike_all P Q f [] (y ∷ hs) a h = absurd a
  alike_all P Q f (x ∷ gs) [] a h = absurd a
  alike_all P Q f (x ∷ gs) (y ∷ hs) a h = (f x y a.0 h.0, alike_all P Q f gs hs a.1 h.1)
