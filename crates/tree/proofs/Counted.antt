-- Elements that pass a test, by how many are counted: none, at least one, at most one.
use Prim.Native.Nat.{ℕ, zero, suc, ◌+◌, ◌≤◌}
use mathlib.Core.Bool.{Bool, true, false, cond}
use mathlib.Core.Path.{◌≡◌, refl, sym, ap, ◌∙◌}
use mathlib.Core.List.{List, [], ◌∷◌}
use mathlib.Core.Option.{some}
use native.Mathlib.Omega.{arith}
use Rattle.tree.specs.Lists.{keep, All, count_of, nth}
use Rattle.tree.proofs.Counts.{count_of_cons}

module _ {A : Type 0} (q : A → Bool) where
  -- none is counted: none passes
  pub none_passes : (l : List A) → count_of q l ≡ 0 → All (λ a. q a ≡ false) l
  unfolding All
  none_passes [] h = tt
  none_passes (a ∷ l) h = go (q a) refl (sym (count_of_cons q a l) ∙ h) (none_passes l)
    where
      go : (b : Bool) → q a ≡ b → cond b 1 0 + count_of q l ≡ 0 → (count_of q l ≡ 0 → All (λ a. q a ≡ false) l)
          → (q a ≡ false) × All (λ a. q a ≡ false) l
      go true e k rest = absurd (omega arith)
      go false e k rest = (e, rest (omega arith))

  -- one that passes is counted
  pub passes_counted : (l : List A) (k : ℕ) (a : A) → nth l k ≡ some a → q a ≡ true → 1 ≤ count_of q l
  unfolding nth
  passes_counted [] k a e h = let z : ◌≡◌ {A = ℕ} 0 1 = cc in absurd (omega arith)
  passes_counted (b ∷ l) zero a e h =
      let i : b ≡ a = cc in
      let j : q b ≡ true = ap q i ∙ h in
      let n : count_of q (b ∷ l) ≡ 1 + count_of q l = count_of_cons q b l ∙ rw j in
      omega arith
  passes_counted (b ∷ l) (suc k) a e h =
      let i = passes_counted l k a e h in
      let n = count_of_cons q b l in
      omega arith

  -- one that is counted is there and passes
  pub record Passing (l : List A) : Type 0 where
    pub place : ℕ
    pub it : A
    pub there : nth l place ≡ some it
    pub passes : q it ≡ true

  pub counted_passes : (l : List A) → 1 ≤ count_of q l → Passing l
  unfolding nth
  counted_passes [] h = let n : count_of q [] ≡ 0 = unfold keep in refl in absurd (omega arith)
  counted_passes (a ∷ l) h = go (q a) refl (counted_passes l)
    where
      go : (b : Bool) → q a ≡ b → (1 ≤ count_of q l → Passing l) → Passing (a ∷ l)
      go true e rest = record { place = 0; it = a; there = refl; passes = e }
      go false e rest =
          let n = count_of_cons q a l in let z : ◌≡◌ {A = ℕ} (cond (q a) 1 0) 0 = rw e in
          let r = rest (omega arith) in
          record { place = suc r.place; it = r.it; there = r.there; passes = r.passes }

  -- two that pass are one, where at most one is counted
  pub only_passes : (l : List A) (i j : ℕ) (a b : A) → count_of q l ≤ 1 → nth l i ≡ some a → nth l j ≡ some b
      → q a ≡ true → q b ≡ true → a ≡ b
  unfolding nth
  only_passes [] i j a b h e f k m = let z : ◌≡◌ {A = ℕ} 0 1 = cc in absurd (omega arith)
  only_passes (x ∷ l) zero zero a b h e f k m = cc
  only_passes (x ∷ l) zero (suc j) a b h e f k m =
      let i : x ≡ a = cc in
      let n : count_of q (x ∷ l) ≡ 1 + count_of q l = count_of_cons q x l ∙ rw (ap q i ∙ k) in
      let r = passes_counted l j b f m in
      absurd (omega arith)
  only_passes (x ∷ l) (suc i) zero a b h e f k m =
      let j : x ≡ b = cc in
      let n : count_of q (x ∷ l) ≡ 1 + count_of q l = count_of_cons q x l ∙ rw (ap q j ∙ m) in
      let r = passes_counted l i a e k in
      absurd (omega arith)
  only_passes (x ∷ l) (suc i) (suc j) a b h e f k m =
      let n = count_of_cons q x l in
      only_passes l i j a b (omega arith) e f k m
