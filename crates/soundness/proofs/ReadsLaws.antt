-- A memory that reads as an index: what it is opened as.
use Prim.Native.Nat.{ℕ, ◌-◌, ◌≤◌}
use mathlib.Core.Path.{◌≡◌, sym, ◌∙◌}
use mathlib.Core.Bool.{Bool, true, false, false≢true}
use mathlib.Core.List.{List}
use mathlib.Core.Option.{none, some}
use native.Mathlib.Omega.{arith}
use lib.ListN.{length}
use Rattle.plane.specs.Fanout.{fanout, PlaneIndex}
use Rattle.memory.specs.Layout.{is_index_length, height_in, root_in}
use Rattle.memory.specs.Reading.{reading}
use Rattle.memory.specs.TreeIn.{TreeIn, Reads, Known}
use Rattle.memory.proofs.ReadingLaws.{index_length, zero_at, read_empty, read_as}

-- a memory of which nothing is known, and one that is known to read as an index
pub unknown : (m : List ℕ) → Known m false
unknown m = record { sound = λ e. absurd (false≢true e) }

pub known_reads : (m : List ℕ) (known : Bool) → Known m known → known ≡ true → Reads m
known_reads m known v e = v.sound e

pub reads_right : (m : List ℕ) → Reads m → is_index_length m ≡ true
reads_right m v = go v.index v.reads
  where
    go : (i : PlaneIndex) → reading fanout m ≡ some i → is_index_length m ≡ true
    go none e = (read_empty fanout m e).0
    go (some t) e = (read_as fanout m t e).right

-- its head can be read
pub reads_long : (m : List ℕ) → Reads m → 64 ≤ length m
reads_long m v = let r = index_length m (reads_right m v) in omega arith

-- its height tells the empty index from a tree
pub reopen_empty : (m : List ℕ) (g : ℕ) → Reads m → g ≡ height_in m → g ≡ 0 → reading fanout m ≡ some none
reopen_empty m g v g_is h = go v.index v.reads
  where
    go : (i : PlaneIndex) → reading fanout m ≡ some i → reading fanout m ≡ some none
    go none e = e
    go (some t) e = let x = (read_as fanout m t e).height_is in absurd (omega arith)

pub reopen_tree : (m : List ℕ) (g k : ℕ) → Reads m → g ≡ height_in m → (g ≡ 0 → ⊥) → k ≡ root_in m → TreeIn m (g - 1) k
reopen_tree m g k v g_is n k_is = go v.index v.reads
  where
    go : (i : PlaneIndex) → reading fanout m ≡ some i → TreeIn m (g - 1) k
    go none e = absurd (n (g_is ∙ zero_at m 8 (read_empty fanout m e).1))
    go (some t) e =
        let x = (read_as fanout m t e).height_is in
        record { tree = t; reads = e; level_is = omega arith; root_is = sym k_is }
