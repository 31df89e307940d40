-- The loop that writes the rectangles of a list, a polygon each, behind the header.
use Prim.Native.Nat.{ℕ, ◌+◌, ◌*◌, ◌≤◌}
use mathlib.Core.Path.{◌≡◌, refl, sym, ap, ◌∙◌}
use mathlib.Core.List.{List, [], ◌∷◌, ◌++◌, flat_map, append-nil}
use native.Mathlib.Omega.{arith}
use lib.ListN.{length, take-append-drop}
use Rattle.geometry.specs.declared.rect.Rect.{Rect}
use Rattle.geometry.specs.declared.rects.Rects.{Rects}
use Rattle.geometry.specs.Rects.{rects_left}
use Rattle.wkb.specs.Bytes.{overwritten}
use Rattle.wkb.specs.Collection.{header_bytes, polygon_bytes, collection_bytes}
use Rattle.wkb.proofs.CollectionLaws.{length_header, length_polygon, length_polygons}
use Rattle.wkb.proofs.OverwriteLaws.{length_overwritten, written_then}

-- the bytes of some rectangles
abbrev polygons : List Rect → List ℕ
polygons l = flat_map polygon_bytes l

-- all but the rest are written behind the header: with the rest at its place all are
pub record Polygons (all rest : List Rect) (out₀ out : List ℕ) (at : ℕ) : Type 0 where
  pub at_is : at + 93 * length rest ≡ 9 + 93 * length all
  pub bytes : overwritten out at (polygons rest) ≡ overwritten out₀ 9 (polygons all)
  pub same_length : length out ≡ length out₀

pub polygons_start : (rects it : Rects) (out : List ℕ) → it ≡ rects → Polygons (rects_left rects) (rects_left it) out out 9
polygons_start rects it out e = rw e (record { at_is = refl; bytes = refl; same_length = refl })

module _ (all rest : List Rect) (out₀ out : List ℕ) (at : ℕ) (w : Polygons all rest out₀ out at) (room : 9 + 93 * length all ≤ length out₀) where
  module _ (r : Rect) (rest' : List Rect) (e : rest ≡ r ∷ rest') where
    pub polygons_again : (out₁ : List ℕ) → out₁ ≡ overwritten out at (polygon_bytes r) → Polygons all rest' out₀ out₁ (at + 93)
    unfolding flat_map
    polygons_again out₁ d =
        let a = ap length e in
        let b = w.at_is in
        let s = w.same_length in
        let lr = length_polygon r in
        let lp = length_polygons rest' in
        let v : at + length (polygon_bytes r) ≤ length out = omega arith in
        let l : length out₁ ≡ length out = ap length d ∙ length_overwritten out at (polygon_bytes r) v in
        let x = written_then out out₁ (overwritten out₁ (at + 93) (polygons rest')) at (at + 93) (polygon_bytes r) (polygons rest') d refl (omega arith) (omega arith) in
        record { at_is = omega arith; bytes = x ∙ (rw e at w.bytes); same_length = l ∙ s }

nothing_over : (l : List ℕ) (at : ℕ) → overwritten l at [] ≡ l
unfolding overwritten
nothing_over l at = let e : at + 0 ≡ at = omega arith in rw (e, append-nil) (take-append-drop at l)

-- all of them, behind the header: the collection
pub polygons_end : (all rest : List Rect) (out out₀ out₁ : List ℕ) (at n : ℕ) → Polygons all rest out₀ out₁ at → rest ≡ [] → 9 + 93 * length all ≤ length out
    → n ≡ length all → out₀ ≡ overwritten out 0 (header_bytes 7 n) → out₁ ≡ overwritten out 0 (collection_bytes all)
unfolding collection_bytes flat_map
polygons_end all rest out out₀ out₁ at n w z room k e =
    let lh = length_header 7 n in
    let lp = length_polygons all in
    let b : out₁ ≡ overwritten out₀ 9 (polygons all) = sym (nothing_over out₁ at) ∙ (rw z at w.bytes) in
    written_then out out₀ out₁ 0 9 (header_bytes 7 n) (polygons all) e b (omega arith) (omega arith)
    ∙ ap (λ (m : ℕ). overwritten out 0 (header_bytes 7 m ++ polygons all)) k
