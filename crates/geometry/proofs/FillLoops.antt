-- The loops that write the parts of each rectangle of a list behind another list.
use mathlib.Core.Path.{◌≡◌, refl, sym, ◌∙◌, ap}
use mathlib.Core.List.{List, [], ◌∷◌, ◌++◌, append-nil, append_assoc, flat_map}
use mathlib.Core.Option.{some}
use Prim.Native.Nat.{ℕ, ◌+◌, ◌*◌, ◌≤◌, ◌<◌}
use native.Mathlib.Omega.{arith}
use borrow.Author.Tests.{le-leb, lt-leb}
use native.Mathlib.Numerals.{add-one}
use lib.ListN.{length, drop, get_or, length-append, drop_of_length-le}
use lib.Seq.{drop-cons}
use Rattle.polygons.specs.Limits.{at_most, most_pieces}
use Rattle.geometry.specs.declared.rect.Rect.{Rect}
use Rattle.std.specs.Prelude.{Ok, Err}
use Rattle.geometry.specs.declared.rects.Rects.{Rects}
use Rattle.geometry.specs.Rects.{rects_left}
use Rattle.geometry.specs.Common.{common, common_with}
use Rattle.geometry.specs.Numbers.{rects_in, counted, Appended, Written}
use Rattle.geometry.proofs.NumberLaws.{length_rects}

-- The parts of the rectangles done are the first m of the numbers out; the rest are left.
pub record Filling (f : Rect → List Rect) (all rest : List Rect) (out₀ out : List ℕ) (m : ℕ) : Type 0 where
  pub few : m ≤ 256
  pub room : 1088 ≤ length out
  pub same_length : length out ≡ length out₀
  pub list : flat_map f all ≡ rects_in out m ++ flat_map f rest

pub fill_start : (f : Rect → List Rect) (out : List ℕ) (rects it : Rects) → it ≡ rects → 1088 ≤ length out → Filling f (rects_left rects) (rects_left it) out out 0
unfolding rects_in
fill_start f out rects it e h = record { few = omega arith; room = h; same_length = refl; list = rw e }

module _ (f : Rect → List Rect) (all : List Rect) (out₀ : List ℕ) where
  module _ (rest : List Rect) (out : List ℕ) (m : ℕ) (v : Filling f all rest out₀ out m) where
    module _ (r : Rect) (rest' : List Rect) (e : rest ≡ r ∷ rest') (k : ℕ) (out' : List ℕ) (m' : ℕ) (w : Appended out m (f r) k out' m') where
      -- the parts of the next rectangle
      filled : flat_map f all ≡ rects_in out' m' ++ flat_map f rest'
      unfolding flat_map
      filled = v.list ∙ rw (e, ← append_assoc, w.list)

      pub fill_again : m' ≤ 256 → Filling f all rest' out₀ out' m'
      fill_again g = record {
        few = g;
        room = rw w.same_length v.room;
        same_length = w.same_length ∙ v.same_length;
        list = filled;
      }

      pub fill_over : 256 < m' → Written out₀ (at_most most_pieces (flat_map f all)) (Err (record {})) out'
      unfolding counted at_most
      fill_over g =
          let l : 256 < length (flat_map f all) = rw (filled, length-append, length_rects) (omega arith) in
          record { list = simp (lt-leb _ _ l); few = tt; same_length = w.same_length ∙ v.same_length }

    pub fill_end : rest ≡ [] → Written out₀ (at_most most_pieces (flat_map f all)) (Ok m) out
    unfolding counted at_most flat_map
    fill_end e =
        let e : flat_map f all ≡ rects_in out m = v.list ∙ rw (e, append-nil) in
        let l : length (flat_map f all) ≤ 256 = rw (e, length_rects) v.few in
        record { list = simp (le-leb _ _ l) (ap some (sym e)); few = v.few; same_length = v.same_length }

-- The common parts of r with the first i rectangles of a list are written behind the first n.
pub record Adding (r : Rect) (l : List Rect) (out₀ : List ℕ) (n : ℕ) (out : List ℕ) (m i : ℕ) : Type 0 where
  pub few : length l ≤ 16
  pub room : 4 * n + 64 ≤ length out
  pub m_le : m ≤ n + i
  pub same_length : length out ≡ length out₀
  pub list : rects_in out₀ n ++ common_with l r ≡ rects_in out m ++ flat_map (common r) (drop i l)

module _ (r : Rect) (l : List Rect) (out₀ : List ℕ) (n : ℕ) where
  pub add_start : 4 * n + 64 ≤ length out₀ → length l ≤ 16 → Adding r l out₀ n out₀ n 0
  unfolding common_with
  add_start g h = record { few = h; room = g; m_le = omega arith; same_length = refl; list = refl }

  module _ (out : List ℕ) (m i : ℕ) (v : Adding r l out₀ n out m i) where
    pub add_again : (d : Rect) (out' : List ℕ) (m' : ℕ) → i < length l → Appended out m (common r (get_or l i d)) 1 out' m' → Adding r l out₀ n out' m' (i + 1)
    unfolding flat_map
    add_again d out' m' h w = record {
      few = v.few;
      room = rw w.same_length v.room;
      m_le = omega (arith, w.few, v.m_le);
      same_length = w.same_length ∙ v.same_length;
      list = v.list ∙ rw (add-one, drop-cons l i d h, ← append_assoc, w.list);
    }

    pub add_end : i ≤ length l → length l ≤ i → Appended out₀ n (common_with l r) 16 out m
    unfolding common_with flat_map
    add_end k h = record {
      list = sym (v.list ∙ rw (drop_of_length-le l h, append-nil));
      few = omega arith;
      same_length = v.same_length;
    }
