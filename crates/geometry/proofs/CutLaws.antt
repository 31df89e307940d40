-- Cutting a rectangle, a list, and by a polygon, without and with the limit.
use mathlib.Core.Path.{◌≡◌, refl, sym, ◌∙◌, ap}
use mathlib.Core.Bool.{Bool, true, false, not, ◌&&◌, ◌||◌, cond, or-false, or-true, and_assoc, and-true}
use mathlib.Core.List.{List, [], ◌∷◌, ◌++◌, flat_map}
use mathlib.Core.Logic.{◌⊎◌, inl, inr, ⊎_elim}
use mathlib.Core.Option.{Option, none, some, bind}
use Prim.Native.Nat.{ℕ, ◌≤◌, ◌<◌}
use native.Mathlib.Omega.{arith}
use native.Mathlib.Decide.{dec_le, dec_lt}
use lib.ListN.{length, length-append}
use Rattle.polygons.specs.Limits.{at_most, most_pieces}
use Rattle.polygons.specs.Lists.{any}
use Rattle.polygons.specs.Rules.{cut_each}
use Rattle.polygons.proofs.LimitLaws.{at_most_or, at_most_length}
use Rattle.polygons.proofs.Booleans.{is_false, not_both, same, either, both, split_and, neither_of}
use Rattle.polygons.proofs.ListLaws.{flat_map_append}
use Rattle.geometry.specs.declared.rect.Cell.{Cell}
use Rattle.geometry.specs.declared.rect.Rect.{Rect}
use Rattle.geometry.specs.Cells.{has_cell, non_empty, valid, all_valid, any_has}
use Rattle.geometry.specs.Common.{overlap, unless_empty}
use Rattle.geometry.specs.Cut.{x_ceiling, x_floor, y_ceiling, y_floor, pieces, cut, cut_list, cut_all, cut_limited}
use Rattle.geometry.specs.Refine.{within}
use Rattle.geometry.proofs.CellLaws.{In, in_of, of_in, valid_of, Some, some_of, Within, of_within, empty_has_none, has_append, valid_append, has_unless_empty, valid_unless_empty, length_unless_empty, has_flat, valid_flat_of}
use Rattle.geometry.proofs.CommonLaws.{overlap_cells}

-- every rectangle of the list is contained in r
unfoldable pub all_within : List Rect → Rect → Bool
all_within [] r = true
all_within (p ∷ l) r = within p r && all_within l r

within_append : (l m : List Rect) (r : Rect) → all_within (l ++ m) r ≡ all_within l r && all_within m r
unfolding all_within
within_append [] m r = refl
within_append (p ∷ l) m r = rw (within_append l m r, and_assoc)

within_unless_empty : (p r : Rect) → within p r ≡ true → all_within (unless_empty p) r ≡ true
unfolding unless_empty all_within
within_unless_empty p r e = go (non_empty p)
  where
    go : (b : Bool) → all_within (cond b (p ∷ []) []) r ≡ true
    go true = rw e
    go false = refl

pieces_length : (r s : Rect) → length (pieces r s) ≤ 4
unfolding pieces
pieces_length r s =
    simp length-append
    (omega (arith, length_unless_empty (x_ceiling r s), length_unless_empty (x_floor r s), length_unless_empty (y_ceiling r s), length_unless_empty (y_floor r s)))

-- the four pieces' tests
in_piece : Rect → Rect → Cell → Bool
in_piece r s c = has_cell (x_ceiling r s) c || has_cell (x_floor r s) c || has_cell (y_ceiling r s) c || has_cell (y_floor r s) c

-- what holds of the four pieces where the two share a cell
module _ (r s : Rect) (o : Some (overlap r s)) where
  piece_1 : Within (x_ceiling r s) r
  unfolding x_ceiling overlap
  piece_1 = omega arith

  piece_2 : Within (x_floor r s) r
  unfolding x_floor overlap
  piece_2 = omega arith

  piece_3 : Within (y_ceiling r s) r
  unfolding y_ceiling overlap
  piece_3 = omega arith

  piece_4 : Within (y_floor r s) r
  unfolding y_floor overlap
  piece_4 = omega arith

  pieces_within : all_within (pieces r s) r ≡ true
  unfolding pieces
  pieces_within =
      let one : (p : Rect) → Within p r → all_within (unless_empty p) r ≡ true = λ p w. within_unless_empty p r (of_within p r w) in
      simp (within_append, one _ piece_1, one _ piece_2, one _ piece_3, one _ piece_4)

  pieces_valid : valid r ≡ true → all_valid (pieces r s) ≡ true
  unfolding pieces
  pieces_valid e =
      let v = valid_of r e in
      let one : (p : Rect) → Within p r → all_valid (unless_empty p) ≡ true = λ p w. valid_unless_empty p (omega arith) (omega arith) in
      simp (valid_append, one _ piece_1, one _ piece_2, one _ piece_3, one _ piece_4)

  module _ (c : Cell) where
    out_1 : In (x_ceiling r s) c → In r c × (In s c → ⊥)
    unfolding x_ceiling overlap
    out_1 h = (omega arith, λ g. omega arith)

    out_2 : In (x_floor r s) c → In r c × (In s c → ⊥)
    unfolding x_floor overlap
    out_2 h = (omega arith, λ g. omega arith)

    out_3 : In (y_ceiling r s) c → In r c × (In s c → ⊥)
    unfolding y_ceiling overlap
    out_3 h = (omega arith, λ g. omega arith)

    out_4 : In (y_floor r s) c → In r c × (In s c → ⊥)
    unfolding y_floor overlap
    out_4 h = (omega arith, λ g. omega arith)

    out : (p : Rect) → (In p c → In r c × (In s c → ⊥)) → has_cell p c ≡ true → has_cell r c && not (has_cell s c) ≡ true
    out p f e =
        let k = f (in_of p c e) in
        rw (of_in r c k.0, is_false (has_cell s c) (λ t. k.1 (in_of s c t)))

    forth : in_piece r s c ≡ true → has_cell r c && not (has_cell s c) ≡ true
    unfolding in_piece
    forth e = ⊎_elim
        (λ e₃. ⊎_elim
        (λ e₂. ⊎_elim (out (x_ceiling r s) out_1) (out (x_floor r s) out_2) (either _ _ e₂))
        (out (y_ceiling r s) out_3) (either _ _ e₃))
        (out (y_floor r s) out_4) (either _ _ e)

    choose : In r c → (In s c → ⊥) → Dec (s.urx ≤ c.x) → Dec (c.x < s.llx) → Dec (s.ury ≤ c.y) → Dec (c.y < s.lly) → in_piece r s c ≡ true
    unfolding in_piece x_ceiling x_floor y_ceiling y_floor overlap
    choose h g (yes a) b d e = let i : In (x_ceiling r s) c = omega arith in simp (of_in _ c i)
    choose h g (no a) (yes b) d e = let i : In (x_floor r s) c = omega arith in simp (of_in _ c i, or-true)
    choose h g (no a) (no b) (yes d) e = let i : In (y_ceiling r s) c = omega arith in simp (of_in _ c i, or-true)
    choose h g (no a) (no b) (no d) (yes e) = let i : In (y_floor r s) c = omega arith in simp (of_in _ c i, or-true)
    choose h g (no a) (no b) (no d) (no e) = absurd (g (omega arith))

    back : has_cell r c && not (has_cell s c) ≡ true → in_piece r s c ≡ true
    back e =
        let k = split_and (has_cell r c) (not (has_cell s c)) e in
        choose (in_of r c k.0) (λ i. not_both _ k.1 (ap not (of_in s c i))) (dec_le _ _) (dec_lt _ _) (dec_le _ _) (dec_lt _ _)

    pieces_cells : any_has (pieces r s) c ≡ has_cell r c && not (has_cell s c)
    unfolding pieces in_piece
    pieces_cells = simp (has_append, has_unless_empty) (same _ _ forth back)

apart : (a b : Bool) → a && b ≡ false → a ≡ a && not b
apart true b e = rw e
apart false b e = refl

module _ (r s : Rect) where
  -- where two rectangles share no cell, the cut leaves the first as it is
  pub uncut : non_empty (overlap r s) ≡ false → cut r s ≡ r ∷ []
  unfolding cut
  uncut e = rw e

  -- what holds of the pieces where the two share a cell, and of r alone where not, holds of the cut
  cases : (P : List Rect → Type 0) → (Some (overlap r s) → P (pieces r s)) → (non_empty (overlap r s) ≡ false → P (r ∷ [])) → P (cut r s)
  unfolding cut
  cases P f g = go (non_empty (overlap r s)) refl
    where
      go : (b : Bool) → non_empty (overlap r s) ≡ b → P (cond b (pieces r s) (r ∷ []))
      go true e = f (some_of (overlap r s) e)
      go false e = g e

  -- a cut has the cells in r and not in s
  pub cut_cells : (c : Cell) → any_has (cut r s) c ≡ has_cell r c && not (has_cell s c)
  unfolding any_has any
  cut_cells c = cases
      (λ l. any_has l c ≡ has_cell r c && not (has_cell s c))
      (λ o. pieces_cells r s o c)
      (λ e. or-false (has_cell r c) ∙ apart (has_cell r c) (has_cell s c) (sym (overlap_cells r s c) ∙ empty_has_none (overlap r s) c e))

  -- the pieces of a valid rectangle are valid, whatever it is cut by
  pub cut_valid : valid r ≡ true → all_valid (cut r s) ≡ true
  unfolding all_valid
  cut_valid v = cases (λ l. all_valid l ≡ true) (λ o. pieces_valid r s o v) (λ e. rw v)

  -- the pieces of a rectangle are contained in it
  pub cut_inside : all_within (cut r s) r ≡ true
  unfolding all_within
  cut_inside = cases (λ l. all_within l r ≡ true) (pieces_within r s) (λ e. both _ _ (of_within r r (omega arith)) refl)

  -- a cut leaves at most four pieces
  pub cut_length : length (cut r s) ≤ 4
  cut_length = cases (λ l. length l ≤ 4) (λ o. pieces_length r s) (λ e. omega arith)

-- one piece cut by S, S first: a name that the loops share
unfoldable pub cut_by : Rect → Rect → List Rect
cut_by s r = cut r s

-- a list is cut piece by piece
pub cut_list_cons : (r : Rect) (l : List Rect) (s : Rect) → cut_list (r ∷ l) s ≡ cut r s ++ cut_list l s
unfolding cut_list flat_map
cut_list_cons r l s = refl

-- a list appended to another is cut as each of the two
pub cut_list_append : (l m : List Rect) (s : Rect) → cut_list (l ++ m) s ≡ cut_list l s ++ cut_list m s
unfolding cut_list cut_by
cut_list_append l m s = flat_map_append (cut_by s) l m

module _ (l : List Rect) (s : Rect) where
  -- a list cut by s has the cells in the list and not in s
  pub cut_list_cells : (c : Cell) → any_has (cut_list l s) c ≡ any_has l c && not (has_cell s c)
  unfolding cut_list cut_by
  cut_list_cells c = has_flat (cut_by s) c (not (has_cell s c)) (λ r. cut_cells r s c) l

  -- cutting keeps a list valid
  pub cut_list_valid : all_valid l ≡ true → all_valid (cut_list l s) ≡ true
  unfolding cut_list cut_by
  cut_list_valid = valid_flat_of (cut_by s) (λ r. cut_valid r s) l

-- a list cut by a polygon has the cells in the list and not in the polygon
pub cut_all_cells : (l p : List Rect) (c : Cell) → any_has (cut_all l p) c ≡ any_has l c && not (any_has p c)
unfolding cut_all any_has any
cut_all_cells l [] c = sym (and-true (any_has l c))
cut_all_cells l (s ∷ p) c = cut_all_cells (cut_list l s) p c ∙ rw (cut_list_cells l s c) (neither_of (any_has l c) (has_cell s c) (any_has p c))

-- cutting by a polygon keeps a list valid
pub cut_all_valid : (l p : List Rect) → all_valid l ≡ true → all_valid (cut_all l p) ≡ true
unfolding cut_all
cut_all_valid l [] v = v
cut_all_valid l (s ∷ p) v = cut_all_valid (cut_list l s) p (cut_list_valid l s v)

-- a limited cut is the cut without a limit, or is refused
pub limited_or_refused : (l p : List Rect) → (cut_limited l p ≡ some (cut_all l p)) ⊎ (cut_limited l p ≡ none)
unfolding cut_each cut_list cut_all bind
limited_or_refused l [] = inl refl
limited_or_refused l (s ∷ p) =
    let ih = limited_or_refused (cut_list l s) p in
    ⊎_elim (λ e. rw e ih) (λ e. inr (rw e)) (at_most_or most_pieces (cut_list l s))

-- a limited cut of at most 256 that is not refused leaves at most 256
pub cut_limited_length : (l p m : List Rect) → length l ≤ 256 → cut_limited l p ≡ some m → length m ≤ 256
unfolding cut_each cut_list bind
cut_limited_length l [] m h e = let q : m ≡ l = cc in rw q h
cut_limited_length l (s ∷ p) m h e = go (at_most most_pieces (cut_list l s)) refl e (λ k. cut_limited_length k p m)
  where
    go : (o : Option (List Rect)) → at_most most_pieces (cut_list l s) ≡ o → bind o (λ k. cut_limited k p) ≡ some m
        → ((k : List Rect) → length k ≤ 256 → cut_limited k p ≡ some m → length m ≤ 256) → length m ≤ 256
    go none q e f = let z : ◌≡◌ {A = ℕ} 0 1 = cc in absurd (omega arith)
    go (some k) q e f = f k (at_most_length most_pieces (cut_list l s) k q) e

-- a limited cut by a polygon appended to another is the limited cut by the first, then by the second
pub cut_limited_append : (l p q : List Rect) → cut_limited l (p ++ q) ≡ bind (cut_limited l p) (λ m. cut_limited m q)
unfolding cut_each cut_list bind
cut_limited_append l [] q = refl
cut_limited_append l (s ∷ p) q = go (at_most most_pieces (cut_list l s)) (λ k. cut_limited_append k p q)
  where
    go : (o : Option (List Rect)) → ((k : List Rect) → cut_limited k (p ++ q) ≡ bind (cut_limited k p) (λ m. cut_limited m q))
        → bind o (λ k. cut_limited k (p ++ q)) ≡ bind (bind o (λ k. cut_limited k p)) (λ m. cut_limited m q)
    go none f = refl
    go (some k) f = f k

module _ (l p m : List Rect) (e : cut_limited l p ≡ some m) where
  -- a limited cut that is not refused is the cut without a limit
  pub limited_is : m ≡ cut_all l p
  limited_is = ⊎_elim (λ f. let q : m ≡ cut_all l p = cc in q) (λ f. let z : ◌≡◌ {A = ℕ} 0 1 = cc in absurd (omega arith)) (limited_or_refused l p)

  -- a limited cut that is not refused has the cells in the list and not in the polygon
  pub cut_limited_cells : (c : Cell) → any_has m c ≡ any_has l c && not (any_has p c)
  cut_limited_cells c = rw limited_is (cut_all_cells l p c)

  -- a limited cut keeps a list valid
  pub cut_limited_valid : all_valid l ≡ true → all_valid m ≡ true
  cut_limited_valid v = rw limited_is (cut_all_valid l p v)
