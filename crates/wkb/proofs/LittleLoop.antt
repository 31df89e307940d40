-- The loop that writes a number's bytes.
use Prim.Native.Nat.{ℕ, suc, ◌+◌, ◌-◌, ◌/◌, ◌%◌, ◌≤◌, ◌<◌}
use mathlib.Core.Path.{◌≡◌, refl, sym, ap, ◌∙◌}
use mathlib.Core.List.{List, ◌∷◌, ◌++◌, head-eq_of_cons-eq, tail-eq_of_cons-eq}
use native.Mathlib.Omega.{arith}
use native.Mathlib.Numerals.{add-one}
use lib.ListN.{length, take, drop, get_or, set, length-set}
use lib.Seq.{paste, paste-zero, paste-suc, take_all, drop-cons}
use Rattle.wkb.specs.Bytes.{little_bytes, overwritten}
use Rattle.wkb.proofs.ByteLaws.{length_little}

-- the first i of k bytes of v are written, and rest has the others
pub record Writing (out₀ : List ℕ) (at k v : ℕ) (out : List ℕ) (rest i : ℕ) : Type 0 where
  pub few : i ≤ k
  pub list : out ≡ paste out₀ at (little_bytes k v) i
  pub others : drop i (little_bytes k v) ≡ little_bytes (k - i) rest
  pub same_length : length out ≡ length out₀

pub writing_start : (out₀ : List ℕ) (at k v : ℕ) → Writing out₀ at k v out₀ v 0
writing_start out₀ at k v = record {
  few = omega arith;
  list = paste-zero out₀ at (little_bytes k v);
  others = ap (λ (n : ℕ). little_bytes n v) (omega arith);
  same_length = refl;
}

little_suc : (n v : ℕ) → little_bytes (suc n) v ≡ (v % 256) ∷ little_bytes n (v / 256)
unfolding little_bytes
little_suc n v = refl

module _ (out₀ : List ℕ) (at k v : ℕ) (out : List ℕ) (rest i : ℕ) (w : Writing out₀ at k v out rest i) where
  pub writing_again : i < k → at + k ≤ length out₀
      → Writing out₀ at k v (set out (at + i) (rest % 256)) (rest / 256) (i + 1)
  writing_again h room =
      let s : List ℕ = little_bytes k v in
      let ls : length s ≡ k = length_little k v in
      let is : i < length s = omega arith in
      let a : at + i < length out₀ = omega arith in
      let n : k - i ≡ suc (k - suc i) = omega arith in
      let e : get_or s i 0 ∷ drop (suc i) s ≡ (rest % 256) ∷ little_bytes (k - suc i) (rest / 256)
      = sym (drop-cons s i 0 is) ∙ w.others ∙ ap (λ (m : ℕ). little_bytes m rest) n ∙ little_suc (k - suc i) rest in
      let x : get_or s i 0 ≡ rest % 256 = head-eq_of_cons-eq e in
      let y : drop (suc i) s ≡ little_bytes (k - suc i) (rest / 256) = tail-eq_of_cons-eq e in
      record {
        few = omega arith;
        list = ap (λ (l : List ℕ). set l (at + i) (rest % 256)) w.list
            ∙ ap (λ (b : ℕ). set (paste out₀ at s i) (at + i) b) (sym x)
            ∙ paste-suc out₀ at s i 0 a is ∙ ap (λ (m : ℕ). paste out₀ at s m) (sym (add-one i));
        others = rw (add-one i) y;
        same_length = length-set out (at + i) (rest % 256) ∙ w.same_length;
      }

  pub writing_end : k ≤ i → out ≡ overwritten out₀ at (little_bytes k v)
  unfolding overwritten
  writing_end h =
      let s : List ℕ = little_bytes k v in
      let ls : length s ≡ k = length_little k v in
      let e : i ≡ length s = omega (arith, w.few) in
      w.list ∙ ap (λ (n : ℕ). paste out₀ at s n) e
      ∙ ap (λ (l : List ℕ). take at out₀ ++ l ++ drop (at + length s) out₀) (take_all (length s) s (omega arith))
