-- The loop that finds a cell's entry in a leaf.
use Prim.Native.Nat.{ℕ, ◌+◌, ◌≤◌, ◌<◌}
use mathlib.Core.Path.{◌≡◌, sym, ap, ◌∙◌}
use mathlib.Core.Bool.{Bool, true, false, not, not-not, ◌&&◌}
use lib.Dec.{eqb}
use mathlib.Core.List.{List}
use native.Mathlib.Omega.{arith}
use native.Mathlib.Decide.{dec_lt}
use lib.ListN.{length}
use Rattle.polygons.proofs.Booleans.{not_both}
use Rattle.geometry.specs.declared.rect.Cell.{Cell}
use Rattle.memory.specs.Layout.{item_count, entry_in}
use Rattle.walks.specs.Walks.{cell_test}
use Rattle.removal.specs.Place.{EntryPlace, HoldsCell}

-- Before the i-th entry: the cell's entry is not an earlier one.
pub record SeekEntry (p : List ℕ) (c : Cell) (i : ℕ) : Type 0 where
  pub holds : HoldsCell p c
  pub i_le : i ≤ holds.at
  pub inside : i < item_count p
  pub few : i < 8
  pub length_is : length p ≡ 128

seek_at : (p : List ℕ) (c : Cell) (i : ℕ) (h : HoldsCell p c) → i ≤ h.at → SeekEntry p c i
seek_at p c i h l =
    let a = h.place.inside in
    let b = h.leaf.few_items in
    record { holds = h; i_le = l; inside = omega arith; few = omega arith; length_is = h.leaf.length_is }

module _ (p : List ℕ) (c : Cell) where
  pub seek_start : HoldsCell p c → SeekEntry p c 0
  seek_start h = seek_at p c 0 h (omega arith)

  module _ (i : ℕ) (v : SeekEntry p c i) (d : Cell) (d_is : d ≡ (entry_in p i).cell) (b : Bool) (t : b ≡ not (eqb d.x c.x && eqb d.y c.y)) where
    e : not b ≡ cell_test c (entry_in p i)
    unfolding cell_test
    e = rw (t, ← d_is, not-not)

    pub seek_found : b ≡ false → EntryPlace p c i
    seek_found f = record { inside = v.inside; is = sym e ∙ ap not f }

    pub seek_again : b ≡ true → SeekEntry p c (i + 1)
    seek_again f = seek_at p c (i + 1) v.holds (go (dec_lt i v.holds.at))
      where
        go : Dec (i < v.holds.at) → i + 1 ≤ v.holds.at
        go (yes l) = omega arith
        go (no l) =
            let q : v.holds.at ≡ i = let k = v.i_le in omega arith in
            absurd (not_both (cell_test c (entry_in p i)) (rw q at v.holds.place.is) (sym e ∙ ap not f))
