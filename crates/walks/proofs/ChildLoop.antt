-- The loop that looks for the child that has a cell.
use Prim.Native.Nat.{ℕ, ◌+◌, ◌≤◌, ◌<◌}
use mathlib.Core.Path.{◌≡◌, sym, ap, ◌∙◌}
use mathlib.Core.Bool.{Bool, true, false}
use mathlib.Core.List.{List}
use native.Mathlib.Decide.{dec_lt}
use native.Mathlib.Numerals.{add-one}
use native.Mathlib.Omega.{arith}
use mir.Syntax.{w32}
use mir.Val.{Fits}
use Rattle.std.specs.Prelude.{Some, None}
use lib.ListN.{length, get_or}
use Rattle.geometry.specs.declared.rect.Cell.{Cell}
use Rattle.memory.specs.Layout.{part, polygon_in, children_in}
use Rattle.memory.proofs.ReadingLaws.{low_at}
use Rattle.layout.specs.Nodes.{count_at, child_at, PolygonPart}
use Rattle.walks.specs.Walks.{has_test}
use Rattle.walks.specs.Children.{Children, NoneBefore, ChildIs}
use Rattle.walks.proofs.ChildLaws.{low_first, low_next, ChildNumbers, child_numbers}

-- Before the i-th of the children ks: none before it has the cell, and its subtree has the parts from low on.
pub record Seeking (m : List ℕ) (lo k : ℕ) (c : Cell) (ks : List ℕ) (i low : ℕ) : Type 0 where
  pub children : Children m k
  pub ks_are : ks ≡ children_in (part m k)
  pub count : length ks ≡ count_at m k
  pub i_le : i ≤ length ks
  pub first : NoneBefore m k c i
  pub low_is : low ≡ low_at lo (children_in (part m k)) i

module _ (m : List ℕ) (lo k : ℕ) (c : Cell) (ks : List ℕ) where
  pub seek_start : Children m k → ks ≡ children_in (part m k) → Seeking m lo k c ks 0 lo
  seek_start v f = record {
    children = v;
    ks_are = f;
    count = ap length f ∙ (child_numbers m k v.ends v.few).count;
    i_le = omega arith;
    first = λ j h. absurd (omega arith);
    low_is = sym (low_first lo (children_in (part m k)));
  }

  module _ (i low : ℕ) (v : Seeking m lo k c ks i low) where
    module _ (h : i < length ks) (j : ℕ) (j_is : j ≡ get_or ks i 0) where
      inside : i < count_at m k
      inside = let e = v.count in omega arith

      numbers : ChildNumbers m k
      numbers = child_numbers m k v.children.ends v.children.few

      part_is : j ≡ child_at m k i
      part_is = j_is ∙ ap (λ l. get_or l i 0) v.ks_are ∙ numbers.at i inside

      pub seek_polygon : PolygonPart m j
      seek_polygon = rw part_is (v.children.each i inside)

      pub seek_fits : Fits w32 (j + 1)
      seek_fits =
          let a = v.children.lower i inside in
          let b = v.children.below in
          let e = part_is in
          omega arith

      module _ (b : Bool) (e : b ≡ has_test c (polygon_in (part m j))) where
        pub seek_found : b ≡ true → ChildIs m lo k c (Some (record { at = i; low = low; part = j }))
        seek_found f = record {
          place = record { inside = inside; has = rw part_is at (sym e ∙ f) };
          first = v.first;
          low_is = v.low_is;
          part_is = part_is;
        }

        pub seek_again : b ≡ false → Seeking m lo k c ks (i + 1) (j + 1)
        seek_again f = record {
          children = v.children;
          ks_are = v.ks_are;
          count = v.count;
          i_le = omega arith;
          first = λ x g. go x g (dec_lt x i);
          low_is = sym (ap (low_at lo (children_in (part m k))) (add-one i)
              ∙ low_next lo (children_in (part m k)) i (rw v.ks_are at h)
              ∙ ap (λ (x : ℕ). x + 1) (numbers.at i inside ∙ sym part_is));
        }
          where
            go : (x : ℕ) → x < i + 1 → Dec (x < i) → has_test c (polygon_in (part m (child_at m k x))) ≡ false
            go x g (yes l) = v.first x l
            go x g (no l) =
                let q : x ≡ i = omega arith in
                rw q (rw part_is at (sym e ∙ f))

    pub seek_none : length ks ≤ i → ChildIs m lo k c None
    seek_none h = λ x g. v.first x (let e = v.count in omega arith)
