-- The loops over a polygon's rectangles: loading, storing, clipping.
use mathlib.Core.Path.{◌≡◌, refl, sym, ◌∙◌, ap}
use mathlib.Core.Bool.{Bool, true, false, not}
use mathlib.Core.List.{List, [], ◌∷◌, ◌++◌, append-nil, append_assoc, flat_map}
use Prim.Native.Nat.{ℕ, ◌+◌, ◌*◌, ◌≤◌, ◌<◌}
use native.Mathlib.Numerals.{add-one}
use native.Mathlib.Omega.{arith}
use lib.ListN.{length, take, drop, get_or, drop_of_length-le}
use lib.Seq.{drop-cons, take_all, take-suc, length-take-le}
use Rattle.std.proofs.lemmas.Bool.{not-true, not-false}
use Rattle.geometry.specs.declared.rect.Rect.{Rect}
use Rattle.geometry.specs.declared.rect.Side.{Side}
use Rattle.geometry.specs.declared.rects.Rects.{Rects}
use Rattle.geometry.specs.declared.polygon.Polygon.{Polygon}
use Rattle.geometry.specs.Cells.{non_empty}
use Rattle.geometry.specs.Clip.{side_part, clip_rect, clip}
use Rattle.geometry.specs.Common.{unless_empty}
use Rattle.geometry.specs.Numbers.{rects_in, rects_of, put_at, Appended, PolygonOf}
use Rattle.geometry.specs.Rects.{rects_left}
use Rattle.geometry.proofs.NumberLaws.{put_behind, length_put}

-- All but the rest of the rectangles are in the polygon.
pub record Loading (all rest : List Rect) (p : Polygon) : Type 0 where
  pub few : p.count + length rest ≤ 16
  pub list : all ≡ rects_of p ++ rest

pub load_start : (rects it : Rects) (p : Polygon) → it ≡ rects → length (rects_left rects) ≤ 16 → p.count ≡ 0 → Loading (rects_left rects) (rects_left it) p
load_start rects it p e h k = record { few = let q = ap (λ z. length (rects_left z)) e in omega arith; list = rw (e, k) }

module _ (all rest : List Rect) (p : Polygon) (v : Loading all rest p) where
  module _ (r : Rect) (rest' : List Rect) (e : rest ≡ r ∷ rest') where
    pub load_room : p.count < 16
    load_room = let a = ap length e in let b = v.few in omega arith

    pub load_again : (p' : Polygon) → p'.count ≡ p.count + 1 → rects_of p' ≡ rects_of p ++ (r ∷ []) → Loading all rest' p'
    load_again p' k l = record {
      few = let a = ap length e in let b = v.few in omega arith;
      list = v.list ∙ rw (e, l, append_assoc);
    }

  pub load_end : rest ≡ [] → PolygonOf all p
  load_end e = record { list = sym (v.list ∙ rw (e, append-nil)); fits = p.few }

-- The first i rectangles of a list are written to the numbers.
pub record Storing (m₀ : List ℕ) (l : List Rect) (m : List ℕ) (i : ℕ) : Type 0 where
  pub few : length l ≤ 16
  pub room : 64 ≤ length m
  pub same_length : length m ≡ length m₀
  pub list : rects_in m i ≡ take i l

module _ (m₀ : List ℕ) (l : List Rect) where
  pub store_start : length l ≤ 16 → 64 ≤ length m₀ → Storing m₀ l m₀ 0
  unfolding rects_in
  store_start g h = record { few = g; room = h; same_length = refl; list = refl }

  module _ (m : List ℕ) (i : ℕ) (v : Storing m₀ l m i) where
    pub store_again : (d : Rect) (m' : List ℕ) → i < length l → m' ≡ put_at m i (get_or l i d) → Storing m₀ l m' (i + 1)
    store_again d m' h e =
        let r = get_or l i d in
        let k : length m' ≡ length m = ap length e ∙ length_put m i r in
        let w : 4 * i + 4 ≤ length m = omega arith in
        record {
          few = v.few;
          room = omega arith;
          same_length = k ∙ v.same_length;
          list = rw (e, put_behind m i r w, v.list, add-one) (sym (take-suc l i d h));
        }

pub store_end : (m₀ : List ℕ) (p : Polygon) (m : List ℕ) (i : ℕ) → Storing m₀ (rects_of p) m i → length (rects_of p) ≤ i → i ≤ length (rects_of p) → length p.rects ≡ 16
    → Appended m₀ 0 (rects_of p) 16 m p.count
unfolding rects_in
store_end m₀ p m i v h k z =
    let f = p.few in
    let e : i ≡ p.count = let q = length-take-le p.count p.rects (omega arith) in omega arith in
    record { list = ap (rects_in m) (sym e) ∙ v.list ∙ take_all i (rects_of p) h; few = omega arith; same_length = v.same_length }

-- The parts of the first i rectangles of a list on a side are in the polygon out.
pub record Clipping (s : Side) (l : List Rect) (out : Polygon) (i : ℕ) : Type 0 where
  pub few : length l ≤ 16
  pub count_le : out.count ≤ i
  pub list : clip s l ≡ rects_of out ++ clip s (drop i l)

module _ (s : Side) (l : List Rect) where
  pub clip_start : (out : Polygon) → length l ≤ 16 → out.count ≡ 0 → Clipping s l out 0
  clip_start out h k = record { few = h; count_le = omega arith; list = rw k }

  module _ (out : Polygon) (i : ℕ) (v : Clipping s l out i) (h : i < length l) where
    module _ (d r : Rect) (e : r ≡ side_part s (get_or l i d)) (b : Bool) (p : b ≡ not (non_empty r)) where
      next_part : clip s l ≡ rects_of out ++ (unless_empty r ++ clip s (drop (i + 1) l))
      unfolding clip clip_rect flat_map
      next_part = v.list ∙ rw (add-one, drop-cons l i d h, ← e)

      -- an empty part is left out
      pub clip_empty : b ≡ true → (out' : Polygon) → out' ≡ out → Clipping s l out' (i + 1)
      unfolding unless_empty
      clip_empty f out' q = rw q (record { few = v.few; count_le = let k = v.count_le in omega arith; list = next_part ∙ rw (not-true _ (sym p ∙ f)) })

      -- a part that is not empty is written
      pub clip_part : b ≡ false → (more out' : Polygon) → more.count ≡ out.count + 1 → rects_of more ≡ rects_of out ++ (r ∷ []) → out' ≡ more → Clipping s l out' (i + 1)
      unfolding unless_empty
      clip_part f more out' k q z = rw z (record {
        few = v.few;
        count_le = let z = v.count_le in omega arith;
        list = next_part ∙ rw (not-false _ (sym p ∙ f), q, append_assoc);
      })

    pub clip_room : out.count < 16
    clip_room = let a = v.few in let b = v.count_le in omega arith

  pub clip_end : (out : Polygon) (i : ℕ) → Clipping s l out i → length l ≤ i → PolygonOf (clip s l) out
  unfolding clip flat_map
  clip_end out i v h = record { list = sym (v.list ∙ rw (drop_of_length-le l h, append-nil)); fits = out.few }
