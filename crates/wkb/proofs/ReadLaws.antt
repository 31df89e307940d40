-- A reader finds in the bytes of a collection what was written.
use Prim.Native.Nat.{ℕ, zero, suc, ◌+◌, ◌*◌, ◌^◌, ◌≤◌, ◌<◌}
use mathlib.Core.Path.{◌≡◌, refl, sym, ap, subst, ◌∙◌}
use mathlib.Core.Bool.{true}
use mathlib.Core.List.{List, ◌++◌, flat_map, append_assoc}
use native.Mathlib.Omega.{arith}
use lib.ListN.{length, get_or, take, drop, length-append}
use lib.Seq.{take_at, drop_at, drop-drop, drop-append-le}
use Rattle.polygons.proofs.FlatLaws.{flat_length, flat_from}
use Rattle.geometry.specs.declared.rect.Rect.{Rect}
use Rattle.geometry.specs.Cells.{no_rect, valid, all_valid}
use Rattle.geometry.proofs.CellLaws.{Valid, valid_of, valid_at}
use Rattle.wkb.specs.Bytes.{little_bytes, little_value}
use Rattle.wkb.specs.Doubles.{double_bytes, ReadAs}
use Rattle.wkb.specs.Collection.{header_bytes, point_bytes, ring, polygon_bytes, collection_bytes}
use Rattle.wkb.specs.Reading.{word_at, HeaderRead, PointRead, PolygonRead, CollectionRead}
use Rattle.wkb.proofs.ByteLaws.{length_little, little_whole}
use Rattle.wkb.proofs.DoubleLaws.{length_double, double_read}
use Rattle.wkb.proofs.CollectionLaws.{length_header, length_point, length_polygon, length_polygons}
use Rattle.wkb.proofs.RingLaws.{ring_five}

-- a part that stands behind another of known length
behind : (a b m : List ℕ) (k n : ℕ) → length a ≡ k → length b ≡ n → take n (drop k (a ++ (b ++ m))) ≡ b
behind a b m k n la lb = ap (take n) (drop_at a (b ++ m) k la) ∙ take_at b m n lb

-- four bytes behind others are read as their number
word_read : (a : List ℕ) (v : ℕ) (m : List ℕ) (k : ℕ) → length a ≡ k → v < 2 ^ 32
    → word_at (a ++ (little_bytes 4 v ++ m)) k ≡ v
word_read a v m k la h = ap little_value (behind a (little_bytes 4 v) m k 4 la (length_little 4 v)) ∙ little_whole 4 v h

-- four lists, each split off
four : (a b d m : List ℕ) → a ++ b ++ d ++ m ≡ a ++ (b ++ (d ++ m))
four a b d m = simp append_assoc

module _ (kind count : ℕ) (k : kind < 2 ^ 32) (n : count < 2 ^ 32) (m : List ℕ) where
  header_read : HeaderRead (header_bytes kind count ++ m) kind count
  unfolding header_bytes
  header_read =
      let o : List ℕ = little_bytes 1 1 in
      let a : List ℕ = little_bytes 4 kind in
      let b : List ℕ = little_bytes 4 count in
      let lo = length_little 1 1 in
      let la = length_little 4 kind in
      let l : length (o ++ a) ≡ 5 = length-append o a ∙ omega arith in
      record {
        order = unfold little_bytes in refl;
        kind_is = ap (λ (z : List ℕ). word_at z 1) (four o a b m) ∙ word_read o kind (b ++ m) 1 lo k;
        count_is = ap (λ (z : List ℕ). word_at z 5) (append_assoc (o ++ a) b m) ∙ word_read (o ++ a) count m 5 l n;
      }

module _ (p : ℕ × ℕ) (hx : p.0 ≤ 2 ^ 53) (hy : p.1 ≤ 2 ^ 53) (m : List ℕ) where
  point_read_lem : PointRead (point_bytes p ++ m) p
  unfolding point_bytes
  point_read_lem =
      let a : List ℕ = double_bytes p.0 in
      let b : List ℕ = double_bytes p.1 in
      let e : a ++ b ++ m ≡ a ++ (b ++ m) = append_assoc a b m in
      let x : take 8 (a ++ b ++ m) ≡ a = ap (take 8) e ∙ take_at a (b ++ m) 8 (length_double p.0) in
      let y : take 8 (drop 8 (a ++ b ++ m)) ≡ b
      = ap (λ (z : List ℕ). take 8 (drop 8 z)) e ∙ behind a b m 8 8 (length_double p.0) (length_double p.1) in
      record {
        x = subst (λ (z : List ℕ). ReadAs z p.0) (sym x) (double_read p.0 hx);
        y = subst (λ (z : List ℕ). ReadAs z p.1) (sym y) (double_read p.1 hy);
      }

-- a valid rectangle's ring has coordinates up to 65536
ring_small : (r : Rect) → valid r ≡ true → (j : ℕ)
    → ((get_or (ring r) j (0, 0)).0 ≤ 65536) × ((get_or (ring r) j (0, 0)).1 ≤ 65536)
unfolding ring
ring_small r v j = go j
  where
    k : Valid r
    k = valid_of r v

    x : r.llx ≤ 65536
    x = omega (arith, k.wide, k.x_most)

    y : r.lly ≤ 65536
    y = omega (arith, k.high, k.y_most)

    go : (j : ℕ) → ((get_or (ring r) j (0, 0)).0 ≤ 65536) × ((get_or (ring r) j (0, 0)).1 ≤ 65536)
    go zero = (x, y)
    go (suc zero) = (k.x_most, y)
    go (suc (suc zero)) = (k.x_most, k.y_most)
    go (suc (suc (suc zero))) = (x, k.y_most)
    go (suc (suc (suc (suc zero)))) = (x, y)
    go (suc (suc (suc (suc (suc j))))) = (omega arith, omega arith)

module _ (r : Rect) (v : valid r ≡ true) (m : List ℕ) where
  polygon_read : PolygonRead (polygon_bytes r ++ m) r
  unfolding polygon_bytes
  polygon_read =
      let h : List ℕ = header_bytes 3 1 in
      let n : List ℕ = little_bytes 4 5 in
      let ps : List ℕ = flat_map point_bytes (ring r) in
      let lh = length_header 3 1 in
      let lo : length (h ++ n) ≡ 13 = length-append h n ∙ rw (lh, length_little 4 5) in
      let e : h ++ n ++ ps ++ m ≡ h ++ (n ++ (ps ++ m)) = four h n ps m in
      record {
        header = subst (λ (z : List ℕ). HeaderRead z 3 1) (sym e)
            (header_read 3 1 (omega arith) (omega arith) (n ++ (ps ++ m)));
        points = ap (λ (z : List ℕ). word_at z 9) e ∙ word_read h 5 (ps ++ m) 9 lh (omega arith);
        point = λ j b.
            let q : ℕ × ℕ = get_or (ring r) j (0, 0) in
            let s = ring_small r v j in
            let five = ring_five r in
            let lp = flat_length point_bytes 16 length_point (ring r) in
            let more : List ℕ = flat_map point_bytes (drop (suc j) (ring r)) in
            let w : drop (13 + 16 * j) (h ++ n ++ ps ++ m) ≡ point_bytes q ++ (more ++ m)
            = sym (drop-drop (16 * j) 13 (h ++ n ++ ps ++ m))
            ∙ ap (drop (16 * j)) (ap (drop 13) (append_assoc (h ++ n) ps m) ∙ drop_at (h ++ n) (ps ++ m) 13 lo)
            ∙ drop-append-le (16 * j) ps m (omega arith)
            ∙ ap (λ (z : List ℕ). z ++ m) (flat_from point_bytes 16 length_point (ring r) j (0, 0) (omega arith))
            ∙ append_assoc (point_bytes q) more m in
            subst (λ (z : List ℕ). PointRead z q) (sym w)
            (point_read_lem q (omega (arith, s.0)) (omega (arith, s.1)) (more ++ m));
      }

module _ (rs : List Rect) (v : all_valid rs ≡ true) (few : length rs < 2 ^ 32) (m : List ℕ) where
  pub collection_read : CollectionRead (collection_bytes rs ++ m) rs
  unfolding collection_bytes
  collection_read =
      let h : List ℕ = header_bytes 7 (length rs) in
      let ps : List ℕ = flat_map polygon_bytes rs in
      let lh = length_header 7 (length rs) in
      let e : h ++ ps ++ m ≡ h ++ (ps ++ m) = append_assoc h ps m in
      record {
        header = subst (λ (z : List ℕ). HeaderRead z 7 (length rs)) (sym e)
            (header_read 7 (length rs) (omega arith) few (ps ++ m));
        polygon = λ i b.
            let r : Rect = get_or rs i no_rect in
            let lp = length_polygons rs in
            let more : List ℕ = flat_map polygon_bytes (drop (suc i) rs) in
            let w : drop (9 + 93 * i) (h ++ ps ++ m) ≡ polygon_bytes r ++ (more ++ m)
            = sym (drop-drop (93 * i) 9 (h ++ ps ++ m))
            ∙ ap (drop (93 * i)) (ap (drop 9) e ∙ drop_at h (ps ++ m) 9 lh)
            ∙ drop-append-le (93 * i) ps m (omega arith)
            ∙ ap (λ (z : List ℕ). z ++ m) (flat_from polygon_bytes 93 length_polygon rs i no_rect b)
            ∙ append_assoc (polygon_bytes r) more m in
            subst (λ (z : List ℕ). PolygonRead z r) (sym w) (polygon_read r (valid_at rs i v b) (more ++ m));
      }
