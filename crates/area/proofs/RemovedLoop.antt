-- The loop that counts the cells a polygon removes, the list behind the polygon in the same numbers.
use mathlib.Core.Path.{◌≡◌, sym, ◌∙◌, ap}
use mathlib.Core.Bool.{true}
use mathlib.Core.List.{List, ◌∷◌, ◌++◌}
use Prim.Native.Nat.{ℕ, ◌+◌, ◌*◌, ◌-◌, ◌≤◌, ◌<◌, min}
use native.Mathlib.Omega.{arith}
use lib.ListN.{drop, length, take-append-drop}
use lib.Seq.{drop-append-le}
use Rattle.geometry.specs.declared.rect.Rect.{Rect}
use Rattle.geometry.specs.Cells.{all_valid}
use Rattle.geometry.specs.Numbers.{rect_at, rects_in}
use Rattle.geometry.proofs.CellLaws.{Valid, valid_of, valid_at}
use Rattle.geometry.proofs.NumberLaws.{length_rects, rects_at, rects_take, rects_next, rects_end}
use Rattle.area.specs.Lacked.{lacked}
use Rattle.area.specs.Removed.{removed}
use Rattle.area.proofs.LackLaws.{lacked_bound}
use Rattle.area.proofs.RemovedMore.{removed_none, removed_more, lacked_fewer}

-- the n rectangles behind the first k
abbrev pub behind : List ℕ → ℕ → ℕ → List Rect
behind m k n = drop k (rects_in m (k + n))

-- What the polygon's rectangles from the j-th on remove is not yet counted.
pub record Removing (m : List ℕ) (k n j sum : ℕ) : Type 0 where
  pub j_le : j ≤ k
  pub rest : sum + removed (behind m k n) (drop j (rects_in m k)) ≡ removed (behind m k n) (rects_in m k)
  pub small : sum ≤ j * 4294967296

-- the polygon from the j-th rectangle on, and the list behind it
whole : (m : List ℕ) (k n j : ℕ) → j ≤ k → drop j (rects_in m k) ++ behind m k n ≡ drop j (rects_in m (k + n))
whole m k n j h =
    let l = length_rects m k in
    let g : j ≤ length (rects_in m k) = omega arith in
    let e : rects_in m k ++ behind m k n ≡ rects_in m (k + n) =
    ap (λ t. t ++ behind m k n) (sym (rects_take m (k + n) k (omega arith)))
    ∙ take-append-drop k (rects_in m (k + n)) in
    sym (drop-append-le j (rects_in m k) (behind m k n) g) ∙ ap (drop j) e

-- what is counted up to a limit is not over it
pub up_to_limit : (a b x : ℕ) → b ≡ min a x → b ≤ a
up_to_limit a b x e = omega arith

pub removing_start : (m : List ℕ) (k n : ℕ) → Removing m k n 0 0
removing_start m k n = record { j_le = omega arith; rest = omega arith; small = omega arith }

module _ (m : List ℕ) (k n j sum : ℕ) (v : Removing m k n j sum) where
  pub removing_end : k ≤ j → sum ≡ removed (behind m k n) (rects_in m k)
  removing_end h =
      let a : removed (behind m k n) (drop j (rects_in m k)) ≡ 0 =
      ap (removed (behind m k n)) (rects_end m k j h) ∙ removed_none (behind m k n) in
      let b = v.rest in
      omega arith

  module _ (h : j < k) (s : Rect) (e : s ≡ rect_at m j) where
    pub removing_valid : all_valid (rects_in m (k + n)) ≡ true → Valid s
    removing_valid g =
        let l = length_rects m (k + n) in
        let f = valid_at (rects_in m (k + n)) j g (omega arith) in
        valid_of s (rw (e, ← (rects_at m (k + n) j (omega arith))) f)

    pub removing_fits : (a b x : ℕ) → a ≡ min 4294967296 x → k ≤ 16 → sum + (a - b) < 18446744073709551616
    removing_fits a b x f g = let t = v.small in omega arith

    -- a of its cells the polygon's later rectangles lack; of these, b the list lacks too
    module _ (a b : ℕ) (ea : a ≡ min 4294967296 (lacked (drop (j + 1) (rects_in m k)) s))
        (eb : b ≡ min a (lacked (drop (j + 1) (rects_in m (k + n))) s)) where
      more : removed (behind m k n) (drop j (rects_in m k)) + b
          ≡ removed (behind m k n) (drop (j + 1) (rects_in m k)) + a
      more =
          let l : List Rect = behind m k n in
          let p : List Rect = drop (j + 1) (rects_in m k) in
          let x = removed_more l p s in
          let y = lacked_fewer l p s in
          let z = lacked_bound p s in
          let w : lacked (p ++ l) s ≡ lacked (drop (j + 1) (rects_in m (k + n))) s =
          ap (λ q. lacked q s) (whole m k n (j + 1) (omega arith)) in
          let u : removed l (drop j (rects_in m k)) ≡ removed l (s ∷ p) =
          ap (removed l) (rects_next m k j h ∙ ap (λ r. r ∷ p) (sym e)) in
          omega arith

      pub removing_on : Removing m k n (j + 1) (sum + (a - b))
      removing_on =
          let t = v.small in
          let y = more in
          let q = v.rest in
          record { j_le = omega arith; rest = omega arith; small = omega arith }
