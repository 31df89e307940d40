-- The elements of a list that pass a test.
use Prim.Native.Nat.{suc, ◌+◌, ◌≤◌}
use mathlib.Core.Bool.{Bool, true, false, not, cond, false≢true}
use mathlib.Core.Path.{◌≡◌, refl, sym, ◌∙◌}
use mathlib.Core.List.{List, [], ◌∷◌, map}
use lib.ListN.{length}
use native.Mathlib.Omega.{arith}
use Rattle.tree.specs.Lists.{keep, All, Pairs}
use Rattle.tree.proofs.Lists.{all_map}

-- those that pass and those that do not are all
pub keep_sides : {A : Type 0} (t : A → Bool) (l : List A) → length (keep t l) + length (keep (λ a. not (t a)) l) ≡ length l
unfolding keep
keep_sides t [] = refl
keep_sides t (a ∷ l) = go (t a) (keep_sides t l)
  where
    go : (b : Bool) → length (keep t l) + length (keep (λ x. not (t x)) l) ≡ length l → length (cond b (a ∷ keep t l) (keep t l)) + length (cond (not b) (a ∷ keep (λ x. not (t x)) l) (keep (λ x. not (t x)) l)) ≡ suc (length l)
    go true h = omega arith
    go false h = omega arith

-- where some pass, one of them can be named
pub keep_one : {A : Type 0} (t : A → Bool) (P : A → Type 0) (l : List A) → All P l → 1 ≤ length (keep t l) → (a : A) × (t a ≡ true) × P a
unfolding keep All
keep_one t P [] h n = absurd (omega arith)
keep_one {A = A} t P (a ∷ l) h n = go (t a) refl n (keep_one t P l h.1)
  where
    go : (b : Bool) → t a ≡ b → 1 ≤ length (cond b (a ∷ keep t l) (keep t l)) → (1 ≤ length (keep t l) → (a : A) × (t a ≡ true) × P a) → (a : A) × (t a ≡ true) × P a
    go true e n f = (a, e, h.0)
    go false e n f = f n

-- those that pass, pass, and have what all have that pass
pub keep_all : {A : Type 0} (t : A → Bool) (P : A → Type 0) (l : List A) → All (λ a. t a ≡ true → P a) l → All P (keep t l)
unfolding keep All
keep_all t P [] h = tt
keep_all t P (a ∷ l) h = go (t a) refl (keep_all t P l h.1)
  where
    go : (b : Bool) → t a ≡ b → All P (keep t l) → All P (cond b (a ∷ keep t l) (keep t l))
    go true e f = (h.0 e, f)
    go false e f = f

-- what those have that are kept, all have that pass
pub all_kept : {A : Type 0} (t : A → Bool) (P : A → Type 0) (l : List A) → All P (keep t l) → All (λ a. t a ≡ true → P a) l
unfolding keep All
all_kept t P [] h = tt
all_kept t P (a ∷ l) h = go (t a) refl h (all_kept t P l)
  where
    go : (b : Bool) → t a ≡ b → All P (cond b (a ∷ keep t l) (keep t l)) → (All P (keep t l) → All (λ x. t x ≡ true → P x) l) → (t a ≡ true → P a) × All (λ x. t x ≡ true → P x) l
    go true e h f = (λ k. h.0, f h.1)
    go false e h f = (λ k. absurd (false≢true (sym e ∙ k)), f h)

-- two tests that agree on a list, over elements of one kind and their images, keep equally many
pub keep_same : {A B : Type 0} (t : A → Bool) (u : B → Bool) (f : A → B) (l : List A) → All (λ a. t a ≡ u (f a)) l → length (keep t l) ≡ length (keep u (map f l))
unfolding keep All
keep_same t u f [] h = refl
keep_same t u f (a ∷ l) h = rw h.0 (go (u (f a)) (keep_same t u f l h.1))
  where
    go : (b : Bool) → length (keep t l) ≡ length (keep u (map f l)) → length (cond b (a ∷ keep t l) (keep t l)) ≡ length (cond b (f a ∷ keep u (map f l)) (keep u (map f l)))
    go true e = omega arith
    go false e = e

-- two tests that agree on a list keep equally many
pub keep_agree : {A : Type 0} (t u : A → Bool) (l : List A) → All (λ a. t a ≡ u a) l → length (keep t l) ≡ length (keep u l)
unfolding keep All
keep_agree t u [] h = refl
keep_agree t u (a ∷ l) h = rw h.0 (go (u a) (keep_agree t u l h.1))
  where
    go : (b : Bool) → length (keep t l) ≡ length (keep u l) → length (cond b (a ∷ keep t l) (keep t l)) ≡ length (cond b (a ∷ keep u l) (keep u l))
    go true e = omega arith
    go false e = e

-- a relation of every two elements holds of those that are kept
pub keep_pairs : {A : Type 0} (t : A → Bool) (R : A → A → Type 0) (l : List A) → Pairs R l → Pairs R (keep t l)
unfolding keep Pairs
keep_pairs t R [] h = tt
keep_pairs t R (a ∷ l) h = go (t a) (keep_pairs t R l h.1)
  where
    go : (b : Bool) → Pairs R (keep t l) → Pairs R (cond b (a ∷ keep t l) (keep t l))
    go true f = (keep_all t (R a) l (all_map (R a) (λ x. t x ≡ true → R a x) l (λ x r e. r) h.0), f)
    go false f = f
