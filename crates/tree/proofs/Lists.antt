-- Lemmas on flat_map, keep, All, Pairs and not_empty.
use Prim.Native.Nat.{ℕ, zero, suc, ◌≤◌, ◌<◌}
use mathlib.Core.Bool.{Bool, true, false, not, cond, ◌||◌, false≢true}
use mathlib.Core.Path.{◌≡◌, refl, sym, subst, ap, ◌∙◌}
use mathlib.Core.List.{map, List, [], ◌∷◌, ◌++◌, append-nil, flat_map}
use lib.Dec.{eqb, eqb-suc-zero}
use lib.ListN.{length, get_or}
use native.Mathlib.Omega.{arith}
use mathlib.Core.Option.{some}
use Rattle.polygons.proofs.ListLaws.{flat_map_append}
use Rattle.tree.specs.Lists.{keep, All, Pairs, not_empty, nth}

module _ {A B : Type 0} where
  pub flat_map_one : (f : A → List B) (a : A) → flat_map f (a ∷ []) ≡ f a
  unfolding flat_map
  flat_map_one f a = append-nil _

  pub flat_map_same : (f g : A → List B) (l : List A) → ((a : A) → f a ≡ g a) → flat_map f l ≡ flat_map g l
  unfolding flat_map
  flat_map_same f g [] h = refl
  flat_map_same f g (a ∷ l) h = rw (h a, flat_map_same f g l h)

pub keep_append : {A : Type 0} (p : A → Bool) (l m : List A) → keep p (l ++ m) ≡ keep p l ++ keep p m
unfolding keep
keep_append p [] m = refl
keep_append p (a ∷ l) m = go (p a) (keep_append p l m)
  where
    go : (b : Bool) → keep p (l ++ m) ≡ keep p l ++ keep p m → cond b (a ∷ keep p (l ++ m)) (keep p (l ++ m)) ≡ cond b (a ∷ keep p l) (keep p l) ++ keep p m
    go true e = ap (λ x. a ∷ x) e
    go false e = e

pub keep_flat_map : {A B : Type 0} (p : B → Bool) (f : A → List B) (l : List A) → keep p (flat_map f l) ≡ flat_map (λ a. keep p (f a)) l
unfolding keep flat_map
keep_flat_map p f [] = refl
keep_flat_map p f (a ∷ l) = keep_append p (f a) (flat_map f l) ∙ ap (λ x. keep p (f a) ++ x) (keep_flat_map p f l)

pub flat_map_flat_map : {A B C : Type 0} (g : B → List C) (f : A → List B) (l : List A) → flat_map g (flat_map f l) ≡ flat_map (λ a. flat_map g (f a)) l
unfolding flat_map
flat_map_flat_map g f [] = refl
flat_map_flat_map g f (a ∷ l) = flat_map_append g (f a) (flat_map f l) ∙ ap (λ x. flat_map g (f a) ++ x) (flat_map_flat_map g f l)

module _ {A : Type 0} where
  pub all_append : (P : A → Type 0) (l m : List A) → All P l → All P m → All P (l ++ m)
  unfolding All
  all_append P [] m h k = k
  all_append P (a ∷ l) m h k = (h.0, all_append P l m h.1 k)

  pub all_first : (P : A → Type 0) (l m : List A) → All P (l ++ m) → All P l
  unfolding All
  all_first P [] m h = tt
  all_first P (a ∷ l) m h = (h.0, all_first P l m h.1)

  pub all_second : (P : A → Type 0) (l m : List A) → All P (l ++ m) → All P m
  unfolding All
  all_second P [] m h = h
  all_second P (a ∷ l) m h = all_second P l m h.1

  pub all_map : (P Q : A → Type 0) (l : List A) → ((a : A) → P a → Q a) → All P l → All Q l
  unfolding All
  all_map P Q [] f h = tt
  all_map P Q (a ∷ l) f h = (f a h.0, all_map P Q l f h.1)

  pub all_any : (P : A → Type 0) (l : List A) → ((a : A) → P a) → All P l
  unfolding All
  all_any P [] f = tt
  all_any P (a ∷ l) f = (f a, all_any P l f)

  pub all_both : (P Q : A → Type 0) (l : List A) → All P l → All Q l → All (λ a. P a × Q a) l
  unfolding All
  all_both P Q [] h k = tt
  all_both P Q (a ∷ l) h k = ((h.0, k.0), all_both P Q l h.1 k.1)

  -- every element of l with every element of m
  abbrev pub Across : {B : Type 0} → (A → B → Type 0) → List A → List B → Type 0
  Across R l m = All (λ a. All (R a) m) l

  pub pairs_append : (R : A → A → Type 0) (l m : List A) → Pairs R l → Pairs R m → Across R l m → Pairs R (l ++ m)
  unfolding Pairs All
  pairs_append R [] m h k x = k
  pairs_append R (a ∷ l) m h k x = (all_append (R a) l m h.0 x.0, pairs_append R l m h.1 k x.1)

  pub pairs_parts : (R : A → A → Type 0) (l m : List A) → Pairs R (l ++ m) → Pairs R l × Pairs R m × Across R l m
  unfolding Pairs All
  pairs_parts R [] m h = (tt, h, tt)
  pairs_parts R (a ∷ l) m h =
      let i = pairs_parts R l m h.1 in
      ((all_first (R a) l m h.0, i.0), i.1, (all_second (R a) l m h.0, i.2))

  pub pairs_map : (R Q : A → A → Type 0) (l : List A) → ((a b : A) → R a b → Q a b) → Pairs R l → Pairs Q l
  unfolding Pairs
  pairs_map R Q [] f h = tt
  pairs_map R Q (a ∷ l) f h = (all_map (R a) (Q a) l (f a) h.0, pairs_map R Q l f h.1)

-- all and pairs of what flat_map gives
pub all_flat_map : {A B : Type 0} (P : B → Type 0) (f : A → List B) (l : List A) → All (λ a. All P (f a)) l → All P (flat_map f l)
unfolding All flat_map
all_flat_map P f [] h = tt
all_flat_map P f (a ∷ l) h = all_append P (f a) (flat_map f l) h.0 (all_flat_map P f l h.1)

pub across_flat_map : {A B : Type 0} (R : B → B → Type 0) (f : A → List B) (m : List B) (l : List A) → All (λ a. Across R m (f a)) l → Across R m (flat_map f l)
unfolding All flat_map
across_flat_map R f m [] h = all_any (λ b. All (R b) []) m (λ b. tt)
across_flat_map R f m (a ∷ l) h =
    all_map (λ b. All (R b) (f a) × All (R b) (flat_map f l)) (λ b. All (R b) (flat_map f (a ∷ l))) m (λ b k. all_append (R b) (f a) (flat_map f l) k.0 k.1)
    (all_both (λ b. All (R b) (f a)) (λ b. All (R b) (flat_map f l)) m h.0 (across_flat_map R f m l h.1))

-- R on what two elements give, whenever Q on the elements
pub pairs_flat_map : {A B : Type 0} (Q : A → A → Type 0) (R : B → B → Type 0) (f : A → List B) (l : List A)
    → ((a : A) → Pairs R (f a)) → ((a b : A) → Q a b → Across R (f a) (f b)) → Pairs Q l → Pairs R (flat_map f l)
unfolding Pairs flat_map
pairs_flat_map Q R f [] o g h = tt
pairs_flat_map Q R f (a ∷ l) o g h = pairs_append R (f a) (flat_map f l) (o a) (pairs_flat_map Q R f l o g h.1) (across_flat_map R f (f a) l (all_map (Q a) (λ b. Across R (f a) (f b)) l (g a) h.0))

pub pairs_flat_map_all : {A B : Type 0} (R : B → B → Type 0) (f : A → List B) (l : List A) → All (λ a. Pairs R (f a)) l → Pairs (λ a b. Across R (f a) (f b)) l → Pairs R (flat_map f l)
unfolding Pairs All flat_map
pairs_flat_map_all R f [] o h = tt
pairs_flat_map_all R f (a ∷ l) o h = pairs_append R (f a) (flat_map f l) o.0 (pairs_flat_map_all R f l o.1 h.1) (across_flat_map R f (f a) l h.0)

-- facts of the two elements in hand
pub pairs_with : {A : Type 0} (P : A → Type 0) (R Q : A → A → Type 0) (l : List A) → ((a b : A) → P a → P b → R a b → Q a b) → All P l → Pairs R l → Pairs Q l
unfolding Pairs All
pairs_with P R Q [] f h k = tt
pairs_with P R Q (a ∷ l) f h k = (all_map (λ b. P b × R a b) (Q a) l (λ b i. f a b h.0 i.0 i.1) (all_both P (R a) l h.1 k.0), pairs_with P R Q l f h.1 k.1)

pub all_head : {A : Type 0} (P : A → Type 0) (a : A) (l : List A) → All P (a ∷ l) → P a
unfolding All
all_head P a l h = h.0

pub all_tail : {A : Type 0} (P : A → Type 0) (a : A) (l : List A) → All P (a ∷ l) → All P l
unfolding All
all_tail P a l h = h.1

pub all_both_map : {A : Type 0} (P Q R : A → Type 0) (l : List A) → ((a : A) → P a → Q a → R a) → All P l → All Q l → All R l
unfolding All
all_both_map P Q R [] f h k = tt
all_both_map P Q R (a ∷ l) f h k = (f a h.0 k.0, all_both_map P Q R l f h.1 k.1)

pub all_of_map : {A C : Type 0} (P : C → Type 0) (f : A → C) (l : List A) → All (λ a. P (f a)) l → All P (map f l)
unfolding All
all_of_map P f [] h = tt
all_of_map P f (a ∷ l) h = (h.0, all_of_map P f l h.1)

-- what holds of the images holds of the elements
pub map_all : {A C : Type 0} (P : C → Type 0) (f : A → C) (l : List A) → All P (map f l) → All (λ a. P (f a)) l
unfolding All
map_all P f [] h = tt
map_all P f (a ∷ l) h = (h.0, map_all P f l h.1)

pub flat_map_all : {A B : Type 0} (P : B → Type 0) (f : A → List B) (l : List A) → All P (flat_map f l) → All (λ a. All P (f a)) l
unfolding All flat_map
flat_map_all P f [] h = tt
flat_map_all P f (a ∷ l) h = (all_first P (f a) (flat_map f l) h, flat_map_all P f l (all_second P (f a) (flat_map f l) h))

pub flat_map_same_all : {A B : Type 0} (f g : A → List B) (l : List A) → All (λ a. f a ≡ g a) l → flat_map f l ≡ flat_map g l
unfolding flat_map All
flat_map_same_all f g [] h = refl
flat_map_same_all f g (a ∷ l) h = rw (h.0, flat_map_same_all f g l h.1)

pub flat_map_single : {A : Type 0} (f : A → List A) (l : List A) → All (λ a. f a ≡ a ∷ []) l → flat_map f l ≡ l
unfolding flat_map All
flat_map_single f [] h = refl
flat_map_single f (a ∷ l) h = rw (h.0, flat_map_single f l h.1)

pub pairs_head : {A : Type 0} (R : A → A → Type 0) (a : A) (l : List A) → Pairs R (a ∷ l) → All (R a) l
unfolding Pairs
pairs_head R a l h = h.0

pub pairs_tail : {A : Type 0} (R : A → A → Type 0) (a : A) (l : List A) → Pairs R (a ∷ l) → Pairs R l
unfolding Pairs
pairs_tail R a l h = h.1

pub pairs_one : {A : Type 0} (R : A → A → Type 0) (l : List A) → length l ≤ 1 → Pairs R l
unfolding Pairs All
pairs_one R [] h = tt
pairs_one R (a ∷ []) h = (tt, tt)
pairs_one R (a ∷ b ∷ l) h = absurd (omega arith)

-- what holds of all elements holds of the i-th
pub all_at : {A : Type 0} (P : A → Type 0) (l : List A) (i : ℕ) (d : A) → i < length l → All P l → P (get_or l i d)
unfolding All
all_at P [] i d h k = absurd (omega arith)
all_at P (a ∷ l) zero d h k = k.0
all_at P (a ∷ l) (suc i) d h k = all_at P l i d (omega arith) k.1

-- what holds of all elements holds of the one at a place
pub all_nth : {A : Type 0} (P : A → Type 0) (l : List A) (i : ℕ) (a : A) → nth l i ≡ some a → All P l → P a
unfolding nth All
all_nth P [] i a e h = let z : ◌≡◌ {A = ℕ} 0 1 = cc in absurd (omega arith)
all_nth P (x ∷ l) zero a e h = let q : x ≡ a = cc in subst P q h.0
all_nth P (x ∷ l) (suc i) a e h = all_nth P l i a e h.1

-- what holds of each place holds of all elements
pub all_of : {A : Type 0} (P : A → Type 0) (l : List A) (d : A) → ((i : ℕ) → i < length l → P (get_or l i d)) → All P l
unfolding All
all_of P [] d f = tt
all_of P (a ∷ l) d f = (f zero (omega arith), all_of P l d (λ i h. f (suc i) (omega arith)))

-- a list put together has an element if one of its parts has
pub not_empty_append : {A : Type 0} (l m : List A) → not_empty (l ++ m) ≡ not_empty l || not_empty m
not_empty_append [] m = refl
not_empty_append (a ∷ l) m = refl

-- a list that has an element is not of length 0
pub not_empty_length : {A : Type 0} (l : List A) → not_empty l ≡ true → 1 ≤ length l
not_empty_length [] h = absurd (false≢true h)
not_empty_length (a ∷ l) h = omega arith

-- a list of length 0 has no element
pub length_zero : {A : Type 0} (l : List A) → length l ≡ 0 → l ≡ []
length_zero [] h = refl
length_zero (a ∷ l) h = absurd (omega arith)

-- a list without elements has length 0
pub not_not_empty : {A : Type 0} (l : List A) → not (not_empty l) ≡ eqb (length l) 0
not_not_empty [] = refl
not_not_empty (a ∷ l) = sym (eqb-suc-zero (length l))
