-- The loop that copies the start of a list of numbers.
use mathlib.Core.Path.{◌≡◌, refl, ◌∙◌}
use mathlib.Core.List.{List, ◌++◌}
use Prim.Native.Nat.{ℕ, ◌+◌, ◌≤◌, ◌<◌}
use native.Mathlib.Nat.{zero-add}
use native.Mathlib.Numerals.{add-one}
use native.Mathlib.Omega.{arith}
use lib.ListN.{length, take, drop, get_or, set, length-set}
use lib.Seq.{paste-suc}

-- The first i of n numbers are copied.
pub record Copying (from : List ℕ) (n : ℕ) (to₀ to : List ℕ) (i : ℕ) : Type 0 where
  pub i_le : i ≤ n
  pub from_fits : n ≤ length from
  pub to_fits : n ≤ length to₀
  pub same_length : length to ≡ length to₀
  pub list : to ≡ take i from ++ drop i to₀

module _ (from : List ℕ) (n : ℕ) (to₀ : List ℕ) where
  pub copy_start : n ≤ length from → n ≤ length to₀ → Copying from n to₀ to₀ 0
  copy_start g h = record { i_le = omega arith; from_fits = g; to_fits = h; same_length = refl; list = refl }

  module _ (to : List ℕ) (i : ℕ) (v : Copying from n to₀ to i) where
    pub copy_again : i < n → Copying from n to₀ (set to i (get_or from i 0)) (i + 1)
    copy_again h = record {
      i_le = omega arith;
      from_fits = v.from_fits;
      to_fits = v.to_fits;
      same_length = length-set to i _ ∙ v.same_length;
      list = rw (add-one, v.list) (simp zero-add at (paste-suc to₀ 0 from i 0 (omega arith) (omega arith)));
    }

    pub copy_end : n ≤ i → to ≡ take n from ++ drop n to₀
    copy_end h = let e : i ≡ n = omega arith in rw e at v.list
