-- The loop that writes rectangles behind those of a list.
use Prim.Native.Nat.{ℕ, ◌+◌, ◌*◌, ◌≤◌}
use mathlib.Core.Path.{◌≡◌, refl, sym, ap, ◌∙◌}
use mathlib.Core.List.{List, [], ◌∷◌, ◌++◌, append-nil, append_assoc}
use native.Mathlib.Omega.{arith}
use lib.ListN.{length}
use Rattle.geometry.specs.declared.rect.Rect.{Rect}
use Rattle.geometry.specs.declared.rects.Rects.{Rects}
use Rattle.geometry.specs.Numbers.{rects_in, put_at, Appended}
use Rattle.geometry.specs.Rects.{rects_left}
use Rattle.geometry.proofs.NumberLaws.{length_put, put_behind}

-- All but the rest are written: m rectangles are there now.
pub record Putting (list₀ : List ℕ) (n : ℕ) (all rest : List Rect) (list : List ℕ) (m : ℕ) : Type 0 where
  pub m_is : m + length rest ≡ n + length all
  pub room : 4 * (n + length all) ≤ length list
  pub same_length : length list ≡ length list₀
  pub rects : rects_in list₀ n ++ all ≡ rects_in list m ++ rest

pub put_start : (list₀ : List ℕ) (n : ℕ) (rects it : Rects) → it ≡ rects → 4 * (n + length (rects_left rects)) ≤ length list₀
    → Putting list₀ n (rects_left rects) (rects_left it) list₀ n
put_start list₀ n rects it e h = record { m_is = rw e; room = h; same_length = refl; rects = rw e }

module _ (list₀ : List ℕ) (n : ℕ) (all rest : List Rect) (list : List ℕ) (m : ℕ) (v : Putting list₀ n all rest list m) where
  module _ (r : Rect) (rest' : List Rect) (e : rest ≡ r ∷ rest') where
    pub put_room : 4 * m + 4 ≤ length list
    put_room = let a = ap length e in let b = v.m_is in let c = v.room in omega arith

    pub put_again : (list' : List ℕ) → list' ≡ put_at list m r → Putting list₀ n all rest' list' (m + 1)
    put_again list' p =
        let l : length list' ≡ length list = ap length p ∙ length_put list m r in
        let k = v.m_is in
        let o = v.room in
        let a = ap length e in
        let s : rects_in list' (m + 1) ≡ rects_in list m ++ (r ∷ []) =
        ap (λ x. rects_in x (m + 1)) p ∙ put_behind list m r put_room in
        record {
          m_is = omega arith;
          room = omega arith;
          same_length = l ∙ v.same_length;
          rects = v.rects ∙ rw (e, s, append_assoc);
        }

  pub put_end : rest ≡ [] → Appended list₀ n all (length all) list m
  put_end e =
      let a = ap length e in
      let k = v.m_is in
      record {
        list = sym (v.rects ∙ rw (e, append-nil));
        few = omega arith;
        same_length = v.same_length;
      }
