-- Lists with the same elements in any order: `Bag` by counting, the kit's permutations by exchanging. Each gives the
-- other.
use Prim.Native.Nat.{ℕ, ◌≤◌}
use mathlib.Core.Bool.{Bool, true, false, cond, not, ◌&&◌}
use mathlib.Core.Path.{◌≡◌, refl, sym, ap, ◌∙◌, subst}
use mathlib.Core.List.Permᴰ
use mathlib.Core.List.{List, [], ◌∷◌, ◌++◌, Permᴰ}
use mathlib.Core.Option.{Option, none, some}
use lib.ListN.{length}
use native.Mathlib.Omega.{arith}
use Rattle.tree.specs.Lists.{keep, count_of, Bag, All}
use Rattle.tree.specs.Search.{Focus, first}
use Rattle.tree.proofs.Lists.{all_map}
use Rattle.tree.proofs.Counts.{count_of_cons, count_of_append, count_of_every, count_of_keep, keep_none}
use Rattle.tree.proofs.Counted.{none_passes}
use Rattle.tree.proofs.Any.{first_none, first_some}

module _ {A : Type 0} where
  pub bag_sym : (l m : List A) → Bag l m → Bag m l
  bag_sym l m h q = sym (h q)

  -- the elements that pass a test
  pub bag_keep : (p : A → Bool) (l m : List A) → Bag l m → Bag (keep p l) (keep p m)
  bag_keep p l m h q = count_of_keep q p l ∙ h (λ a. p a && q a) ∙ sym (count_of_keep q p m)

  pub bag_length : (l m : List A) → Bag l m → length l ≡ length m
  bag_length l m h = sym (count_of_every l) ∙ h (λ a. true) ∙ count_of_every m

  all_count : (q : A → Bool) (l : List A) → All (λ a. q a ≡ true) l → count_of (λ a. not (q a)) l ≡ 0
  all_count q l h =
      let n = all_map (λ a. q a ≡ true) (λ a. not (q a) ≡ false) l (λ a k. ap not k) h in
      ap length (keep_none (λ a. not (q a)) l n)

  count_all : (q : A → Bool) (l : List A) → count_of (λ a. not (q a)) l ≡ 0 → All (λ a. q a ≡ true) l
  count_all q l h =
      all_map (λ a. not (q a) ≡ false) (λ a. q a ≡ true) l (λ a k. back (q a) k) (none_passes (λ a. not (q a)) l h)
    where
      back : (b : Bool) → not b ≡ false → b ≡ true
      back true e = refl
      back false e = sym e

  -- what holds of all elements of the one
  pub bag_all : (q : A → Bool) (l m : List A) → Bag l m → All (λ a. q a ≡ true) m → All (λ a. q a ≡ true) l
  bag_all q l m b h = count_all q l (b (λ a. not (q a)) ∙ all_count q m h)

  -- A permutation keeps the count of every test.
  pub perm_bag : {l m : List A} → Permᴰ l m → Bag l m
  perm_bag Permᴰ.nil q = refl
  perm_bag (Permᴰ.cons {a = a} {b = b} {l₁ = l} {l₂ = m} e d) q =
      let i = perm_bag d q in
      let u : cond {A = ℕ} (q a) 1 0 ≡ cond (q b) 1 0 = ap (λ x. cond {A = ℕ} (q x) 1 0) e in
      let v = count_of_cons q a l in
      let w = count_of_cons q b m in
      omega arith
  perm_bag (Permᴰ.swap {a = a} {b = b} {a' = a'} {b' = b'} {l = l} e f) q =
      let u : cond {A = ℕ} (q a) 1 0 ≡ cond (q b') 1 0 = ap (λ x. cond {A = ℕ} (q x) 1 0) e in
      let v : cond {A = ℕ} (q b) 1 0 ≡ cond (q a') 1 0 = ap (λ x. cond {A = ℕ} (q x) 1 0) f in
      let w = count_of_cons q a (b ∷ l) in
      let x = count_of_cons q b l in
      let y = count_of_cons q a' (b' ∷ l) in
      let z = count_of_cons q b' l in
      omega arith
  perm_bag (Permᴰ.trans d e) q = perm_bag d q ∙ perm_bag e q

  -- The other way, by a test that only an element itself passes.
  module _ (is : A → A → Bool) (is_one : (a b : A) → is a b ≡ true → b ≡ a) (is_own : (a : A) → is a a ≡ true) where
    empty_bag : (m : List A) → length m ≡ 0 → Permᴰ [] m
    empty_bag [] e = Permᴰ.nil
    empty_bag (a ∷ m) e = absurd (omega arith)

    -- the first element, found in the other list, is taken out of both
    without : (a : A) (l m : List A) (f : Focus A) → Bag (a ∷ l) m → m ≡ f.before ++ (f.at ∷ f.after) → f.at ≡ a
        → Bag l (f.before ++ f.after)
    without a l m f h e k q =
        let u = h q in
        let v = count_of_cons q a l in
        let x : count_of q m ≡ count_of q (f.before ++ (f.at ∷ f.after)) = ap (count_of q) e in
        let y = count_of_append q f.before (f.at ∷ f.after) in
        let z = count_of_cons q f.at f.after in
        let t = count_of_append q f.before f.after in
        let s : cond {A = ℕ} (q f.at) 1 0 ≡ cond (q a) 1 0 = ap (λ x. cond {A = ℕ} (q x) 1 0) k in
        omega arith

    pub bag_perm : (l m : List A) → Bag l m → Permᴰ l m
    bag_perm [] m h = empty_bag m (sym (bag_length [] m h))
    bag_perm (a ∷ l) m h = go (first (is a) m) refl (bag_perm l)
      where
        go : (o : Option (Focus A)) → first (is a) m ≡ o → ((n : List A) → Bag l n → Permᴰ l n)
            → Permᴰ (a ∷ l) m
        go none e rest =
            let z : count_of (is a) m ≡ 0 = ap length (keep_none (is a) m (first_none (is a) m e)) in
            let u : cond {A = ℕ} (is a a) 1 0 ≡ 1 = rw (is_own a) in
            let n = h (is a) in let k = count_of_cons (is a) a l in
            absurd (omega arith)
        go (some f) e rest =
            let w = first_some (is a) m f e in
            let k = is_one a f.at w.passes in
            let p = Permᴰ.cons (sym k) (rest (f.before ++ f.after) (without a l m f h w.list k)) in
            subst (Permᴰ (a ∷ l)) (sym w.list)
            (Permᴰ.trans p (Permᴰ.symm (Permᴰ.middle f.at f.before f.after)))

    -- of at most one element, they are one list
    pub bag_one : (l m : List A) → length l ≤ 1 → Bag l m → l ≡ m
    bag_one [] m h b = none_left m (bag_length [] m b)
      where
        none_left : (m : List A) → 0 ≡ length m → [] ≡ m
        none_left [] e = refl
        none_left (a ∷ m) e = absurd (omega arith)
    bag_one (a ∷ b ∷ l) m h k = absurd (omega arith)
    bag_one (a ∷ []) [] h k = let e = bag_length (a ∷ []) [] k in absurd (omega arith)
    bag_one (a ∷ []) (b ∷ c ∷ m) h k = let e = bag_length (a ∷ []) (b ∷ c ∷ m) k in absurd (omega arith)
    bag_one (a ∷ []) (b ∷ []) h k = go (is a b) refl
      where
        go : (t : Bool) → is a b ≡ t → a ∷ [] ≡ b ∷ []
        go true e = ap (λ x. x ∷ []) (sym (is_one a b e))
        go false e =
            let n = k (is a) in
            let u = count_of_cons (is a) a [] in
            let v = count_of_cons (is a) b [] in
            let x : cond {A = ℕ} (is a a) 1 0 ≡ 1 = rw (is_own a) in
            let y : cond {A = ℕ} (is a b) 1 0 ≡ 0 = rw e in
            absurd (omega arith)
