-- Lemmas on any, first and bind.
use Prim.Native.Nat.{ℕ}
use mathlib.Core.Bool.{Bool, true, false, ◌&&◌, ◌||◌, or-true, false≢true, cond, and-or_distrib_right}
use mathlib.Core.Path.{◌≡◌, refl, sym, ap, ◌∙◌}
use mathlib.Core.List.{List, [], ◌∷◌, ◌++◌, flat_map}
use mathlib.Core.Option.{bind, Option, none, some}
use native.Mathlib.Omega.{arith}
use Rattle.polygons.specs.Lists.{any}
use Rattle.polygons.proofs.ListLaws.{any_append}
use Rattle.tree.specs.Lists.{All, keep, not_empty}
use Rattle.tree.specs.Search.{Focus, pushed, first}

pub any_flat_map : {A C : Type 0} (t : C → Bool) (f : A → List C) (l : List A) → any t (flat_map f l) ≡ any (λ a. any t (f a)) l
unfolding any flat_map
any_flat_map t f [] = refl
any_flat_map t f (a ∷ l) = any_append t (f a) (flat_map f l) ∙ ap (λ b. any t (f a) || b) (any_flat_map t f l)

pub any_same : {A : Type 0} (t u : A → Bool) (l : List A) → ((a : A) → t a ≡ u a) → any t l ≡ any u l
unfolding any
any_same t u [] h = refl
any_same t u (a ∷ l) h = rw (h a, any_same t u l h)

pub any_and : {A : Type 0} (t : A → Bool) (b : Bool) (l : List A) → any (λ a. t a && b) l ≡ any t l && b
unfolding any
any_and t b [] = refl
any_and t b (a ∷ l) = ap (λ x. (t a && b) || x) (any_and t b l) ∙ sym (and-or_distrib_right (t a) (any t l) b)

pub any_left : {A : Type 0} (t : A → Bool) (b : Bool) (l : List A) → any (λ a. b && t a) l ≡ b && any t l
unfolding any
any_left t true [] = refl
any_left t false [] = refl
any_left t true (a ∷ l) = ap (λ x. t a || x) (any_left t true l)
any_left t false (a ∷ l) = any_left t false l

-- some element passes exactly if one is kept
pub kept_any : {A : Type 0} (t : A → Bool) (l : List A) → not_empty (keep t l) ≡ any t l
unfolding keep any
kept_any t [] = refl
kept_any t (a ∷ l) = go (t a) (kept_any t l)
  where
    go : (b : Bool) → not_empty (keep t l) ≡ any t l → not_empty (cond b (a ∷ keep t l) (keep t l)) ≡ b || any t l
    go true e = refl
    go false e = e

-- no element passes, or the first that does is found
pub first_none : {A : Type 0} (t : A → Bool) (l : List A) → first t l ≡ none → All (λ a. t a ≡ false) l
unfolding first All
first_none {A = A} t [] h = tt
first_none {A = A} t (a ∷ l) h = go (t a) refl (first t l) (first_none t l) h
  where
    go : (b : Bool) → t a ≡ b → (m : Option (Focus A)) → (m ≡ none → All (λ x. t x ≡ false) l) → cond b (some (record { before = []; at = a; after = l })) (pushed a m) ≡ none → (t a ≡ false) × All (λ x. t x ≡ false) l
    go true e m f h = let z : ◌≡◌ {A = ℕ} 0 1 = cc in absurd (omega arith)
    go false e none f h = (e, f refl)
    go false e (some k) f h = let z : ◌≡◌ {A = ℕ} 0 1 = cc in absurd (omega arith)

pub record Found {A : Type 0} (t : A → Bool) (l : List A) (f : Focus A) : Type 0 where
  pub list : l ≡ f.before ++ (f.at ∷ f.after)
  pub passes : t f.at ≡ true

pub first_some : {A : Type 0} (t : A → Bool) (l : List A) (f : Focus A) → first t l ≡ some f → Found t l f
unfolding first
first_some {A = A} t [] f h = let z : ◌≡◌ {A = ℕ} 0 1 = cc in absurd (omega arith)
first_some {A = A} t (a ∷ l) f h = go (t a) refl (first t l) (first_some t l) h
  where
    go : (b : Bool) → t a ≡ b → (m : Option (Focus A)) → ((g : Focus A) → m ≡ some g → Found t l g) → cond b (some (record { before = []; at = a; after = l })) (pushed a m) ≡ some f → Found t (a ∷ l) f
    go true e m k h = let q : f ≡ record { before = []; at = a; after = l } = cc in rw q (record { list = refl; passes = e })
    go false e none k h = let z : ◌≡◌ {A = ℕ} 0 1 = cc in absurd (omega arith)
    go false e (some g) k h =
        let q : f ≡ record { before = a ∷ g.before; at = g.at; after = g.after } = cc in
        let i = k g refl in
        rw q (record { list = ap (λ x. a ∷ x) i.list; passes = i.passes })

pub any_none : {A : Type 0} (t : A → Bool) (l : List A) → All (λ a. t a ≡ false) l → any t l ≡ false
unfolding any All
any_none t [] h = refl
any_none t (a ∷ l) h = rw h.0 (any_none t l h.1)

any_up : {A X : Type 0} (t : X → A → Bool) (a : A) (l m : List A) → All (λ b. (x : X) → t x b ≡ true → any (t x) l ≡ true) m → All (λ b. (x : X) → t x b ≡ true → any (t x) (a ∷ l) ≡ true) m
unfolding any All
any_up t a l [] h = tt
any_up t a l (b ∷ m) h = (λ x e. rw (h.0 x e) (or-true (t x a)), any_up t a l m h.1)

pub any_has_lem : {A X : Type 0} (t : X → A → Bool) (l : List A) → All (λ a. (x : X) → t x a ≡ true → any (t x) l ≡ true) l
unfolding any All
any_has_lem t [] = tt
any_has_lem t (a ∷ l) = (λ x e. rw e, any_up t a l l (any_has_lem t l))

pub any_from : {A : Type 0} (t : A → Bool) (P : Type 0) (l : List A) → All (λ a. t a ≡ true → P) l → any t l ≡ true → P
unfolding any All
any_from t P [] h e = absurd (false≢true e)
any_from t P (a ∷ l) h e = go (t a) refl e (any_from t P l h.1)
  where
    go : (b : Bool) → t a ≡ b → b || any t l ≡ true → (any t l ≡ true → P) → P
    go true k e f = h.0 k
    go false k e f = f e

pub any_false : {A : Type 0} (t : A → Bool) (l : List A) → any t l ≡ false → All (λ a. t a ≡ false) l
unfolding any All
any_false t [] h = tt
any_false t (a ∷ l) h = (first_false (t a) h, any_false t l (rest_false (t a) h))
  where
    first_false : (b : Bool) → b || any t l ≡ false → b ≡ false
    first_false true h = h
    first_false false h = refl

    rest_false : (b : Bool) → b || any t l ≡ false → any t l ≡ false
    rest_false true h = let z : ◌≡◌ {A = ℕ} 0 1 = cc in absurd (omega arith)
    rest_false false h = h

pub bind_some : {A B : Type 0} (m : Option A) (f : A → Option B) (y : B) → bind m f ≡ some y → (a : A) × (m ≡ some a) × (f a ≡ some y)
unfolding bind
bind_some none f y h = let z : ◌≡◌ {A = ℕ} 0 1 = cc in absurd (omega arith)
bind_some (some a) f y h = (a, refl, h)
