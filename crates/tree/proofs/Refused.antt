-- Step 2 refuses only where a limit is passed.
use Prim.Native.Nat.{ℕ, ◌≤◌, min}
use mathlib.Core.Bool.{Bool, true, ◌||◌, or-true, false≢true}
use mathlib.Core.Path.{◌≡◌, refl, sym, ap, ◌∙◌, subst}
use mathlib.Core.List.{List, [], ◌∷◌, ◌++◌, map, flat_map}
use mathlib.Core.Option.{Option, none, some, bind}
use lib.ListN.{length, length-append, length-map}
use lib.Dec.{eqb}
use native.Mathlib.Omega.{arith}
use native.Mathlib.Decide.{dec_le}
use borrow.Author.Tests.{eq-eqb}
use Rattle.polygons.specs.Lists.{any, least}
use Rattle.tree.specs.Lists.{All}
use Rattle.tree.specs.Space.{Branch}
use Rattle.tree.specs.Boxes.{Boxes, any_has, extra, GoodPolygon, Poly}
use Rattle.tree.specs.Search.{first, Focus, or_else}
use Rattle.tree.specs.Step2.{grown_poly, all_boxes, extras, has_extra, chosen, whole, growing, choose}
use Rattle.tree.proofs.Any.{any_flat_map, any_same, first_none, first_some, any_none}

least_any : {A : Type 0} (f : A → ℕ) (a : A) (l : List A) → any (λ r. eqb (f r) (least f (a ∷ l))) (a ∷ l) ≡ true
unfolding any least
least_any f a [] = rw (eq-eqb (f a) (f a) refl)
least_any f a (b ∷ l) = go (dec_le (f a) (least f (b ∷ l))) (least_any f b l)
  where
    go : Dec (f a ≤ least f (b ∷ l)) → any (λ r. eqb (f r) (least f (b ∷ l))) (b ∷ l) ≡ true → eqb (f a) (min (f a) (least f (b ∷ l))) || any (λ r. eqb (f r) (min (f a) (least f (b ∷ l)))) (b ∷ l) ≡ true
    go (yes h) i = rw (eq-eqb (f a) (min (f a) (least f (b ∷ l))) (omega arith))
    go (no h) i = let e : min (f a) (least f (b ∷ l)) ≡ least f (b ∷ l) = omega arith in subst (λ (x : ℕ). eqb (f a) x || any (λ r. eqb (f r) x) (b ∷ l) ≡ true) (sym e) (ap (λ (z : Bool). eqb (f a) (least f (b ∷ l)) || z) i ∙ or-true (eqb (f a) (least f (b ∷ l))))

finds : {A : Type 0} (t : A → Bool) (l : List A) → any t l ≡ true → (k : Focus A) × (first t l ≡ some k)
finds {A = A} t l h = go (first t l) refl
  where
    go : (m : Option (Focus A)) → first t l ≡ m → (k : Focus A) × (m ≡ some k)
    go none e = absurd (false≢true (sym (any_none t l (first_none t l e)) ∙ h))
    go (some k) e = (k, refl)

some_all : {A : Type 0} (f : A → ℕ) (l : List A) → 1 ≤ length l → any (λ r. eqb (f r) (least f l)) l ≡ true
some_all f [] h = absurd (omega arith)
some_all f (a ∷ l) h = least_any f a l

any_map : {A C : Type 0} (t : C → Bool) (f : A → C) (l : List A) → any t (map f l) ≡ any (λ a. t (f a)) l
unfolding any
any_map t f [] = refl
any_map t f (a ∷ l) = ap (λ b. t (f a) || b) (any_map t f l)

module _ (B : Boxes) {A : Type 0} (p : Poly B) (bs : List (Branch (Poly B) A)) (c : B.Cell) where
  -- a branch has an extra area for each of its rectangles
  some_extras : (l : List (Branch (Poly B) A)) → 1 ≤ length l → All (λ b. GoodPolygon B b.poly) l → 1 ≤ length (extras B l c)
  unfolding All flat_map
  some_extras [] h f = absurd (omega arith)
  some_extras (b ∷ l) h f =
      let a = f.0.lower in
      let e = length-append (map (λ r. extra B b.poly r c) b.poly) (extras B l c) in
      let g = length-map b.poly (λ r. extra B b.poly r c) in
      omega arith

  -- a number is one of the extra areas exactly if some branch has a rectangle with it
  any_extras : (m : ℕ) (l : List (Branch (Poly B) A))
      → any (λ x. eqb x m) (extras B l c) ≡ any (λ b. any (has_extra B c m b.poly) b.poly) l
  any_extras m l =
      any_flat_map (λ x. eqb x m) (λ b. map (λ r. extra B b.poly r c) b.poly) l
      ∙ any_same _ (λ b. any (has_extra B c m b.poly) b.poly) l (λ b. any_map (λ x. eqb x m) (λ r. extra B b.poly r c) b.poly)

  -- the refusal names a branch and a box whose growth passes a limit
  pub record Cause : Type 0 where
    pub branch : Focus (Branch (Poly B) A)
    pub box : Focus B.Box
    pub row : bs ≡ branch.before ++ (branch.at ∷ branch.after)
    pub fails : grown_poly B p (all_boxes B (branch.before ++ branch.after)) box c ≡ none

  growing_cause : 1 ≤ length bs → All (λ b. GoodPolygon B b.poly) bs → growing B p bs c ≡ none → Cause
  unfolding bind
  growing_cause n f h =
      let m = least (λ x. x) (extras B bs c) in
      let a : any (λ b. any (has_extra B c m b.poly) b.poly) bs ≡ true =
      sym (any_extras m bs) ∙ some_all (λ x. x) (extras B bs c) (some_extras bs n f) in
      let i = finds (λ b. any (has_extra B c m b.poly) b.poly) bs a in
      let k = first_some (λ b. any (has_extra B c m b.poly) b.poly) bs i.0 i.1 in
      let j = finds (has_extra B c m i.0.at.poly) i.0.at.poly k.passes in
      record {
        branch = i.0;
        box = j.0;
        row = k.list;
        fails = last (grown_poly B p (all_boxes B (i.0.before ++ i.0.after)) j.0 c) i.0 (rw (i.1, j.1) at h);
      }
    where
      last : (m : Option (Poly B)) (f : Focus (Branch (Poly B) A)) → bind m (λ q. some (chosen B f q)) ≡ none → m ≡ none
      last none f e = refl
      last (some q) f e = let z : ◌≡◌ {A = ℕ} 0 1 = cc in absurd (omega arith)

  -- Step 2 at a node with good branches refuses only so.
  pub choose_cause : 1 ≤ length bs → All (λ b. GoodPolygon B b.poly) bs → choose B p bs c ≡ none → Cause
  unfolding choose
  choose_cause n f h = go (first (λ b. any_has B b.poly c) bs) h
    where
      go : (m : Option (Focus (Branch (Poly B) A))) → or_else (whole B m) (growing B p bs c) ≡ none → Cause
      go none e = growing_cause n f e
      go (some k) e = let z : ◌≡◌ {A = ℕ} 0 1 = cc in absurd (omega arith)
