-- A look at all of a list gives an entry of it to which none is nearer.
use Prim.Native.Nat.{ℕ, zero, suc}
use mathlib.Core.Bool.{Bool, true, false}
use mathlib.Core.Path.{◌≡◌, refl, sym, ap, ◌∙◌, subst}
use mathlib.Core.List.{List, [], ◌∷◌}
use mathlib.Core.Option.{none, some}
use native.Mathlib.Omega.{arith}
use Rattle.polygons.proofs.Booleans.{is_false, not_both}
use Rattle.tree.specs.Lists.{All, nth}
use Rattle.tree.specs.Space.{Space}
use Rattle.tree.specs.Nodes.{EntryOf}
use Rattle.tree.specs.Order.{comes_before}
use Rattle.tree.specs.Nearest.{rank, nearer, IsNearest, or_nearer, nearest_of}
use Rattle.tree.proofs.Order.{irreflexive, transitive, total_order}
use Rattle.tree.proofs.Lists.{all_nth}

module _ (S : Space) (c : S.Cell) where
  -- not nearer, twice
  not_nearer : (e f g : EntryOf S) → nearer S c f e ≡ false → nearer S c g f ≡ false → nearer S c g e ≡ false
  not_nearer e f g h k = is_false (nearer S c g e) (λ i. go (nearer S c e f) refl i)
    where
      go : (t : Bool) → nearer S c e f ≡ t → nearer S c g e ≡ true → ⊥
      go true j i = not_both (nearer S c g f) (transitive (rank S c g) (rank S c e) (rank S c f) i j) k
      go false j i = not_both (nearer S c g f) (ap (comes_before (rank S c g)) (total_order (rank S c f) (rank S c e) h j) ∙ i) k

  -- of two entries one is not nearer
  one_way : (e f : EntryOf S) → nearer S c f e ≡ true → nearer S c e f ≡ false
  one_way e f h = is_false (nearer S c e f)
      (λ i. not_both (nearer S c f f) (transitive (rank S c f) (rank S c e) (rank S c f) h i) (irreflexive (rank S c f)))

  -- what the nearest so far and the rest of a list give
  record Looked (b : EntryOf S) (es : List (EntryOf S)) : Type 0 where
    pub best : EntryOf S
    pub found : nearest_of S c (some b) es ≡ some best
    pub is : IsNearest S c (b ∷ es) best

  -- the same entry among the first and the rest, with one more between them
  between : (b f : EntryOf S) (es : List (EntryOf S)) (e : EntryOf S) → IsNearest S c (b ∷ es) e → nearer S c f b ≡ false → IsNearest S c (b ∷ f ∷ es) e
  unfolding All nth
  between b f es e h k = go h.place h.one
    where
      rest : All (λ g. nearer S c g e ≡ false) (b ∷ f ∷ es)
      rest = (h.none_nearer.0, (not_nearer e b f h.none_nearer.0 k, h.none_nearer.1))

      go : (k : ℕ) → nth (b ∷ es) k ≡ some e → IsNearest S c (b ∷ f ∷ es) e
      go zero q = record { place = 0; one = q; none_nearer = rest }
      go (suc k) q = record { place = suc (suc k); one = q; none_nearer = rest }

  looked : (b : EntryOf S) (es : List (EntryOf S)) → Looked b es
  unfolding or_nearer All nth
  looked b [] = record { best = b; found = refl; is = record { place = 0; one = refl; none_nearer = (irreflexive (rank S c b), tt) } }
  looked b (f ∷ es) = go (looked f es) (looked b es) (nearer S c f b) refl
    where
      with_first : (r : Looked f es) → nearer S c f b ≡ true → IsNearest S c (b ∷ f ∷ es) r.best
      with_first r h =
          let n = r.is.none_nearer in
          record { place = suc r.is.place; one = r.is.one; none_nearer = (not_nearer r.best f b n.0 (one_way b f h), n) }

      go : Looked f es → Looked b es → (t : Bool) → nearer S c f b ≡ t → Looked b (f ∷ es)
      go r s true h = record { best = r.best; found = rw h r.found; is = with_first r h }
      go r s false h = record { best = s.best; found = rw h s.found; is = between b f es s.best s.is h }

  -- What a look at all of a list gives is the nearest of it.
  pub nearest_is : (es : List (EntryOf S)) (e : EntryOf S) → nearest_of S c none es ≡ some e → IsNearest S c es e
  unfolding or_nearer
  nearest_is [] e h = let z : ◌≡◌ {A = ℕ} 0 1 = cc in absurd (omega arith)
  nearest_is (f ∷ es) e h = go (looked f es)
    where
      go : Looked f es → IsNearest S c (f ∷ es) e
      go r = let q : r.best ≡ e = (let i : some r.best ≡ some e = sym r.found ∙ h in cc) in subst (IsNearest S c (f ∷ es)) q r.is

  -- Of a list with an entry there is a nearest one.
  pub nearest_some : (f : EntryOf S) (es : List (EntryOf S)) → (e : EntryOf S) × (nearest_of S c none (f ∷ es) ≡ some e)
  unfolding or_nearer
  nearest_some f es = let r = looked f es in (r.best, r.found)

  -- Two nearest entries of one list have one rank: so the distance, and what decides ties, are fixed.
  pub nearest_rank : (es : List (EntryOf S)) (e f : EntryOf S) → IsNearest S c es e → IsNearest S c es f → rank S c e ≡ rank S c f
  nearest_rank es e f h k = total_order (rank S c e) (rank S c f)
      (all_nth (λ g. nearer S c g f ≡ false) es h.place e h.one k.none_nearer)
      (all_nth (λ g. nearer S c g e ≡ false) es k.place f k.one h.none_nearer)
