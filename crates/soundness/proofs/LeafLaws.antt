-- A leaf's entries: what the code's scans say of the tests.
use mathlib.Core.Path.{◌≡◌, refl, sym, ap, ◌∙◌}
use mathlib.Core.Bool.{Bool, true, false, not, ◌&&◌}
use mathlib.Core.List.{List}
use Prim.Native.Nat.{ℕ, ◌+◌, ◌<◌, ◌≤◌}
use native.Mathlib.Omega.{arith}
use native.Mathlib.Decide.{dec_lt}
use lib.Dec.{eqb}
use lib.ListN.{length, drop}
use Rattle.geometry.specs.declared.rect.Cell.{Cell}
use Rattle.cover.specs.Tests.{all_pass, pairs_pass}
use Rattle.cover.proofs.PassLoops.{Passing, passing_end, passing_stop, passing_on, Pairing, pairing_start, pairing_end, pairing_stop, pairing_on}
use Rattle.plane.specs.Fanout.{fanout}
use Rattle.memory.specs.Layout.{item_count, entry_in, entries_in}
use Rattle.memory.specs.SoundTest.{apart_test}
use Rattle.layout.specs.Nodes.{NodePart}
use Rattle.layout.proofs.EntryRows.{entries_next, entries_end}

-- whether the entries from the j-th on have other cells than the i-th; j may have passed the last one
pub record Unlike (p : List ℕ) (n i j : ℕ) (w : Bool) : Type 0 where
  pub j_le : j ≤ 8
  pub few : n ≤ 8
  pub fits : length p ≡ 128
  pub passing : Passing (apart_test fanout 0 (entry_in p i)) (entries_in p n) j w

pub unlike_start : (p : List ℕ) (n i : ℕ) → i < n → n ≤ 8 → length p ≡ 128
    → Unlike p n i (i + 1) (all_pass (apart_test fanout 0 (entry_in p i)) (drop (i + 1) (entries_in p n)))
unlike_start p n i h k l = record { j_le = omega arith; few = k; fits = l; passing = record { rest = refl } }

module _ (p : List ℕ) (n i j : ℕ) (w : Bool) (v : Unlike p n i j w) where
  pub unlike_end : 8 ≤ j → true ≡ w
  unlike_end h = let k = v.few in passing_end (apart_test fanout 0 (entry_in p i)) (entries_in p n) j w v.passing (entries_end p n j (omega arith))

  module _ (g : j < 8) where
    pub unlike_past : n ≤ j → Unlike p n i (j + 1) w
    unlike_past h = record {
      j_le = omega arith;
      few = v.few;
      fits = v.fits;
      passing = record { rest = v.passing.rest ∙ ap (all_pass (apart_test fanout 0 (entry_in p i))) (entries_end p n j h ∙ sym (entries_end p n (j + 1) (omega arith))) };
    }

    unlike_on : apart_test fanout 0 (entry_in p i) (entry_in p j) ≡ true → Unlike p n i (j + 1) w
    unlike_on f = go (dec_lt j n)
      where
        go : Dec (j < n) → Unlike p n i (j + 1) w
        go (no h) = unlike_past (omega arith)
        go (yes h) = record {
          j_le = omega arith;
          few = v.few;
          fits = v.fits;
          passing = passing_on (apart_test fanout 0 (entry_in p i)) (entries_in p n) j w v.passing (entry_in p j) (entries_next p n j h) f;
        }

    module _ (c d : Cell) (c_is : c ≡ (entry_in p i).cell) (d_is : d ≡ (entry_in p j).cell) (b : Bool) (e : b ≡ eqb c.x d.x && eqb c.y d.y) where
      unlike_is : apart_test fanout 0 (entry_in p i) (entry_in p j) ≡ not b
      unfolding apart_test
      unlike_is = rw (← c_is, ← d_is, ← e)

      pub unlike_next : b ≡ false → Unlike p n i (j + 1) w
      unlike_next f = unlike_on (unlike_is ∙ ap not f)

      pub unlike_stop : b ≡ true → j < n → false ≡ w
      unlike_stop f h =
          passing_stop (apart_test fanout 0 (entry_in p i)) (entries_in p n) j w v.passing (entry_in p j) (entries_next p n j h) (unlike_is ∙ ap not f)

-- whether no two of the n entries have one cell
pub record Differing (p : List ℕ) (n i : ℕ) (w : Bool) : Type 0 where
  pub count : n ≡ item_count p
  pub i_le : i ≤ n
  pub fits : NodePart p
  pub pairing : Pairing (apart_test fanout 0) (entries_in p n) i w

pub differ_start : (p : List ℕ) (n : ℕ) → NodePart p → n ≡ item_count p → Differing p n 0 (pairs_pass (apart_test fanout 0) (entries_in p (item_count p)))
differ_start p n h c = record { count = c; i_le = omega arith; fits = h; pairing = rw c (pairing_start (apart_test fanout 0) (entries_in p (item_count p))) }

module _ (p : List ℕ) (n i : ℕ) (w : Bool) (v : Differing p n i w) where
  pub differ_end : n ≤ i → true ≡ w
  differ_end h = pairing_end (apart_test fanout 0) (entries_in p n) i w v.pairing (entries_end p n i h)

  pub differ_all : 8 ≤ i → true ≡ w
  differ_all h = let k = v.fits.few_items in let c = v.count in differ_end (omega arith)

  module _ (h : i < n) (b : Bool) (f : b ≡ all_pass (apart_test fanout 0 (entry_in p i)) (drop (i + 1) (entries_in p n))) where
    pub differ_stop : b ≡ false → false ≡ w
    differ_stop g = pairing_stop (apart_test fanout 0) (entries_in p n) i w v.pairing (entry_in p i) (entries_next p n i h) (sym f ∙ g)

    pub differ_on : b ≡ true → Differing p n (i + 1) w
    differ_on g = record {
      count = v.count;
      i_le = omega arith;
      fits = v.fits;
      pairing = pairing_on (apart_test fanout 0) (entries_in p n) i w v.pairing (entry_in p i) (entries_next p n i h) (sym f ∙ g);
    }
