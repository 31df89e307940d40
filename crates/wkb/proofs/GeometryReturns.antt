-- What the writing functions leave: the bytes of their parts are those of the whole.
use Prim.Native.Nat.{ℕ, ◌+◌, ◌≤◌}
use mathlib.Core.Path.{◌≡◌, sym, ap, ◌∙◌}
use mathlib.Core.List.{List, [], ◌++◌, flat_map, append-nil, append_assoc}
use native.Mathlib.Omega.{arith}
use lib.ListN.{length, length-append}
use Rattle.geometry.specs.declared.rect.Rect.{Rect}
use Rattle.wkb.specs.Bytes.{little_bytes, overwritten}
use Rattle.wkb.specs.Doubles.{double_bytes}
use Rattle.wkb.specs.Collection.{header_bytes, point_bytes, ring, polygon_bytes}
use Rattle.wkb.proofs.ByteLaws.{length_little}
use Rattle.wkb.proofs.DoubleLaws.{length_double}
use Rattle.wkb.proofs.CollectionLaws.{length_header, length_point, length_ring}
use Rattle.wkb.proofs.OverwriteLaws.{written_then, three_written}

module _ (out out₁ out₂ out₃ : List ℕ) (at kind count : ℕ) where
  pub header_written : at + 9 ≤ length out
      → out₁ ≡ overwritten out at (little_bytes 1 1)
      → out₂ ≡ overwritten out₁ (at + 1) (little_bytes 4 kind)
      → out₃ ≡ overwritten out₂ (at + 5) (little_bytes 4 count)
      → out₃ ≡ overwritten out at (header_bytes kind count)
  unfolding header_bytes
  header_written h e f g =
      let a = length_little 1 1 in
      let b = length_little 4 kind in
      let d = length_little 4 count in
      three_written out out₁ out₂ out₃ (little_bytes 1 1) (little_bytes 4 kind) (little_bytes 4 count) at (at + 1) (at + 5)
      (omega arith) (omega arith) (omega arith) e f g

module _ (out out₁ out₂ : List ℕ) (at : ℕ) where
  pub point_written : (x y : ℕ) → at + 16 ≤ length out
      → out₁ ≡ overwritten out at (double_bytes x) → out₂ ≡ overwritten out₁ (at + 8) (double_bytes y)
      → out₂ ≡ overwritten out at (point_bytes (x, y))
  unfolding point_bytes
  point_written x y h e f =
      let a = length_double x in
      let b = length_double y in
      written_then out out₁ out₂ at (at + 8) (double_bytes x) (double_bytes y) e f (omega arith) (omega arith)

  pub side_written : (x x' y : ℕ) → at + 32 ≤ length out
      → out₁ ≡ overwritten out at (point_bytes (x, y)) → out₂ ≡ overwritten out₁ (at + 16) (point_bytes (x', y))
      → out₂ ≡ overwritten out at (point_bytes (x, y) ++ point_bytes (x', y))
  side_written x x' y h e f =
      let a = length_point (x, y) in
      let b = length_point (x', y) in
      written_then out out₁ out₂ at (at + 16) (point_bytes (x, y)) (point_bytes (x', y)) e f (omega arith) (omega arith)

-- five lists, by two, two and one
by_twos : (a b d e f : List ℕ) → a ++ (b ++ (d ++ (e ++ (f ++ [])))) ≡ a ++ b ++ (d ++ e) ++ f
by_twos a b d e f = simp (append_assoc, append-nil)

module _ (out out₁ out₂ out₃ : List ℕ) (at : ℕ) (r : Rect) where
  pub ring_written : at + 80 ≤ length out
      → out₁ ≡ overwritten out at (point_bytes (r.llx, r.lly) ++ point_bytes (r.urx, r.lly))
      → out₂ ≡ overwritten out₁ (at + 32) (point_bytes (r.urx, r.ury) ++ point_bytes (r.llx, r.ury))
      → out₃ ≡ overwritten out₂ (at + 64) (point_bytes (r.llx, r.lly))
      → out₃ ≡ overwritten out at (flat_map point_bytes (ring r))
  unfolding ring flat_map
  ring_written h e f g =
      let p : List ℕ = point_bytes (r.llx, r.lly) in
      let q : List ℕ = point_bytes (r.urx, r.lly) in
      let s : List ℕ = point_bytes (r.urx, r.ury) in
      let t : List ℕ = point_bytes (r.llx, r.ury) in
      let a : length (p ++ q) ≡ 32
      = length-append p q ∙ rw (length_point (r.llx, r.lly), length_point (r.urx, r.lly)) in
      let b : length (s ++ t) ≡ 32
      = length-append s t ∙ rw (length_point (r.urx, r.ury), length_point (r.llx, r.ury)) in
      let d : length p ≡ 16 = length_point (r.llx, r.lly) in
      three_written out out₁ out₂ out₃ (p ++ q) (s ++ t) p at (at + 32) (at + 64)
      (omega arith) (omega arith) (omega arith) e f g
      ∙ ap (overwritten out at) (sym (by_twos p q s t p))

  pub polygon_written : at + 93 ≤ length out
      → out₁ ≡ overwritten out at (header_bytes 3 1)
      → out₂ ≡ overwritten out₁ (at + 9) (little_bytes 4 5)
      → out₃ ≡ overwritten out₂ (at + 13) (flat_map point_bytes (ring r))
      → out₃ ≡ overwritten out at (polygon_bytes r)
  unfolding polygon_bytes
  polygon_written h e f g =
      let a = length_header 3 1 in
      let b = length_little 4 5 in
      let d = length_ring r in
      three_written out out₁ out₂ out₃ (header_bytes 3 1) (little_bytes 4 5) (flat_map point_bytes (ring r)) at
      (at + 9) (at + 13) (omega arith) (omega arith) (omega arith) e f g
