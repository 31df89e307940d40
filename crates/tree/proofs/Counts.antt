-- Lemmas on count_of, total and any: how many elements of a list pass a test.
use Prim.Native.Nat.{ℕ, zero, suc, ◌+◌, ◌≤◌, ◌<◌}
use mathlib.Core.Bool.{not, Bool, true, false, cond, ◌&&◌, ◌||◌, false≢true}
use mathlib.Core.Path.{◌≡◌, refl, ap, ◌∙◌}
use mathlib.Core.List.{List, [], ◌∷◌, ◌++◌, append-nil, flat_map}
use lib.ListN.{length, get_or, length-append}
use native.Mathlib.Omega.{arith}
use Rattle.polygons.specs.Lists.{any}
use Rattle.polygons.proofs.Booleans.{is_false, not_both}
use Rattle.tree.specs.Lists.{keep, total, All, Pairs, count_of}
use Rattle.tree.proofs.Lists.{keep_append, all_map, all_both_map, all_at}

pub flat_map_none : {A B : Type 0} (f : A → List B) (l : List A) → All (λ a. f a ≡ []) l → flat_map f l ≡ []
unfolding flat_map All
flat_map_none f [] h = refl
flat_map_none f (a ∷ l) h = rw h.0 (flat_map_none f l h.1)

pub count_of_append : {A : Type 0} (q : A → Bool) (l m : List A) → count_of q (l ++ m) ≡ count_of q l + count_of q m
count_of_append q l m = rw keep_append (length-append (keep q l) (keep q m))

pub total_append : {A : Type 0} (f : A → ℕ) (l m : List A) → total f (l ++ m) ≡ total f l + total f m
unfolding total
total_append f [] m = omega arith
total_append f (a ∷ l) m = let i = total_append f l m in omega arith

pub count_of_cons : {A : Type 0} (q : A → Bool) (a : A) (l : List A) → count_of q (a ∷ l) ≡ cond (q a) 1 0 + count_of q l
unfolding keep
count_of_cons q a l = go (q a)
  where
    go : (b : Bool) → length (cond b (a ∷ keep q l) (keep q l)) ≡ cond b 1 0 + length (keep q l)
    go true = omega arith
    go false = omega arith

pub count_of_flat_map : {A B : Type 0} (q : B → Bool) (f : A → List B) (l : List A) → count_of q (flat_map f l) ≡ total (λ a. count_of q (f a)) l
unfolding flat_map total keep
count_of_flat_map q f [] = refl
count_of_flat_map q f (a ∷ l) = count_of_append q (f a) (flat_map f l) ∙ ap (λ n. count_of q (f a) + n) (count_of_flat_map q f l)

pub count_of_keep : {A : Type 0} (q p : A → Bool) (l : List A) → count_of q (keep p l) ≡ count_of (λ a. p a && q a) l
unfolding keep
count_of_keep q p [] = refl
count_of_keep q p (a ∷ l) = go (p a) (count_of_keep q p l)
  where
    go : (b : Bool) → count_of q (keep p l) ≡ count_of (λ x. p x && q x) l → count_of q (cond b (a ∷ keep p l) (keep p l)) ≡ length (cond (b && q a) (a ∷ keep (λ x. p x && q x) l) (keep (λ x. p x && q x) l))
    go true h = same (q a) h
      where
        same : (b : Bool) → count_of q (keep p l) ≡ count_of (λ x. p x && q x) l → length (cond b (a ∷ keep q (keep p l)) (keep q (keep p l))) ≡ length (cond b (a ∷ keep (λ x. p x && q x) l) (keep (λ x. p x && q x) l))
        same true h = ap suc h
        same false h = h
    go false h = h

pub count_of_every : {A : Type 0} (l : List A) → count_of (λ a. true) l ≡ length l
unfolding keep
count_of_every [] = refl
count_of_every (a ∷ l) = ap suc (count_of_every l)

pub keep_none : {A : Type 0} (q : A → Bool) (l : List A) → All (λ a. q a ≡ false) l → keep q l ≡ []
unfolding keep All
keep_none q [] h = refl
keep_none q (a ∷ l) h = rw h.0 (keep_none q l h.1)

pub length_keep : {A : Type 0} (q : A → Bool) (l : List A) → count_of q l ≤ length l
unfolding keep
length_keep q [] = omega arith
length_keep q (a ∷ l) = go (q a) (length_keep q l)
  where
    go : (b : Bool) → count_of q l ≤ length l → length (cond b (a ∷ keep q l) (keep q l)) ≤ suc (length l)
    go true h = omega arith
    go false h = omega arith

-- an element passes or it does not
pub count_of_both : {A : Type 0} (q : A → Bool) (l : List A) → length l ≡ count_of q l + count_of (λ a. not (q a)) l
unfolding keep
count_of_both q [] = refl
count_of_both q (a ∷ l) = go (q a) (count_of_both q l)
  where
    go : (b : Bool) → length l ≡ count_of q l + count_of (λ x. not (q x)) l → suc (length l) ≡ length (cond b (a ∷ keep q l) (keep q l)) + length (cond (not b) (a ∷ keep (λ x. not (q x)) l) (keep (λ x. not (q x)) l))
    go true h = omega arith
    go false h = omega arith

-- sums
pub total_same : {A : Type 0} (f g : A → ℕ) (l : List A) → All (λ a. f a ≡ g a) l → total f l ≡ total g l
unfolding total All
total_same f g [] h = refl
total_same f g (a ∷ l) h = let i = total_same f g l h.1 in let k = h.0 in omega arith

pub total_none : {A : Type 0} (f : A → ℕ) (l : List A) → All (λ a. f a ≡ 0) l → total f l ≡ 0
unfolding total All
total_none f [] h = refl
total_none f (a ∷ l) h = let i = total_none f l h.1 in let k = h.0 in omega arith

-- at most one element passes, the others give 0
pub total_one : {A : Type 0} (f : A → ℕ) (t : A → Bool) (m : ℕ) (l : List A) → All (λ b. t b ≡ false → f b ≡ 0) l → All (λ b. f b ≤ m) l → Pairs (λ a b. t a ≡ true → t b ≡ false) l → total f l ≤ m
unfolding total All Pairs
total_one f t m [] h k r = omega arith
total_one f t m (b ∷ l) h k r = go (t b) refl (total_one f t m l h.1 k.1 r.1)
  where
    go : (v : Bool) → t b ≡ v → total f l ≤ m → f b + total f l ≤ m
    go true e i =
        let z = total_none f l (all_both_map (λ a. t a ≡ false → f a ≡ 0) (λ a. t b ≡ true → t a ≡ false) (λ a. f a ≡ 0) l (λ a u g. u (g e)) h.1 r.0) in
        let y = k.0 in omega arith
    go false e i = let z = h.0 e in omega arith

pub total_some : {A : Type 0} (f : A → ℕ) (t : A → Bool) (m : ℕ) (l : List A) → All (λ a. t a ≡ true → m ≤ f a) l → any t l ≡ true → m ≤ total f l
unfolding total any All
total_some f t m [] h e = absurd (false≢true e)
total_some f t m (a ∷ l) h e = go (t a) refl e (total_some f t m l h.1)
  where
    go : (b : Bool) → t a ≡ b → b || any t l ≡ true → (any t l ≡ true → m ≤ total f l) → m ≤ f a + total f l
    go true k e j = let i = h.0 k in omega arith
    go false k e j = let i = j e in omega arith

-- exactly one passes, or none
pub total_exact : {A : Type 0} (t : A → Bool) (l : List A) → Pairs (λ a b. t a ≡ true → t b ≡ false) l → total (λ a. cond (t a) 1 0) l ≡ cond (any t l) 1 0
unfolding total any All Pairs
total_exact t [] r = refl
total_exact t (a ∷ l) r = go (t a) refl (total_exact t l r.1)
  where
    go : (b : Bool) → t a ≡ b → total (λ x. cond (t x) 1 0) l ≡ cond (any t l) 1 0 → cond b 1 0 + total (λ x. cond (t x) 1 0) l ≡ cond (b || any t l) 1 0
    go true e i = let z = total_none (λ x. cond (t x) 1 0) l (all_map (λ x. t a ≡ true → t x ≡ false) (λ x. cond (t x) 1 0 ≡ 0) l (λ x g. rw (g e)) r.0) in omega arith
    go false e i = omega arith

-- Of every two elements at most one passes the test, and the i-th passes: only it counts.
module _ {A : Type 0} (t : A → Bool) where
  pub total_only : (f : A → ℕ) (l : List A) (i : ℕ) (d : A) → Pairs (λ a b. t a ≡ true → t b ≡ false) l → i < length l
      → t (get_or l i d) ≡ true
      → total (λ a. cond (t a) (f a) 0) l ≡ f (get_or l i d)
  unfolding Pairs total
  total_only f [] i d p h e = absurd (omega arith)
  total_only f (a ∷ l) zero d p h e =
      let z = total_none (λ b. cond (t b) (f b) 0) l
      (all_map (λ b. t a ≡ true → t b ≡ false) (λ b. cond (t b) (f b) 0 ≡ 0) l (λ b g. rw (g e)) p.0) in
      rw e (omega arith)
  total_only f (a ∷ l) (suc i) d p h e =
      let k : t a ≡ false = is_false (t a)
      (λ g. not_both (t (get_or l i d)) e (all_at (λ b. t a ≡ true → t b ≡ false) l i d (omega arith) p.0 g)) in
      let z = total_only f l i d p.1 (omega arith) e in
      rw k (omega arith)

  pub flat_map_only : {B : Type 0} (f : A → List B) (l : List A) (i : ℕ) (d : A)
      → Pairs (λ a b. t a ≡ true → t b ≡ false) l → i < length l
      → t (get_or l i d) ≡ true → flat_map (λ a. cond (t a) (f a) []) l ≡ f (get_or l i d)
  unfolding Pairs flat_map
  flat_map_only f [] i d p h e = absurd (omega arith)
  flat_map_only f (a ∷ l) zero d p h e =
      let z = flat_map_none (λ b. cond (t b) (f b) []) l
      (all_map (λ b. t a ≡ true → t b ≡ false) (λ b. cond (t b) (f b) [] ≡ []) l (λ b g. rw (g e)) p.0) in
      rw (e, z) (append-nil (f a))
  flat_map_only f (a ∷ l) (suc i) d p h e =
      let k : t a ≡ false = is_false (t a)
      (λ g. not_both (t (get_or l i d)) e (all_at (λ b. t a ≡ true → t b ≡ false) l i d (omega arith) p.0 g)) in
      rw k (flat_map_only f l i d p.1 (omega arith) e)
