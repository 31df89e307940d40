-- What a changed or freed part leaves as it was.
use Prim.Native.Nat.{ℕ, ◌+◌, ◌≤◌, ◌<◌}
use mathlib.Core.Path.{◌≡◌, sym, ◌∙◌}
use mathlib.Core.Bool.{true, false}
use mathlib.Core.List.{List}
use mathlib.Core.Logic.{◌⊎◌, inl, inr, ◌≢◌}
use native.Mathlib.Omega.{arith}
use native.Mathlib.Decide.{ℕ_discrete}
use lib.ListN.{length, take, drop, replicate, length-take, length-drop, length-replicate}
use lib.Seq.{get_or-take, get_or-drop, ext_get_or}
use Rattle.polygons.proofs.Booleans.{not_both}
use Rattle.memory.specs.Layout.{parts_of, is_index_length, part, in_use, bits_set, all_zero, others_zero}
use Rattle.memory.proofs.ReadingLaws.{unused_zero, zero_unused, zeros_zero}
use Rattle.layout.specs.Beside.{Beside}
use Rattle.layout.specs.Nodes.{PartIn}
use Rattle.layout.specs.PartSet.{set_part, without_bit, freed, UsedPart}
use Rattle.layout.proofs.FreeLaws.{cleared_length, cleared_bits, cleared_others, cleared_head, cleared_part}
use Rattle.layout.proofs.PartSetLaws.{set_length, set_part_lem, set_others, set_head, set_in_use, set_bits}

-- a wider range
pub beside_wider : (m : List ℕ) (lo' lo k k' : ℕ) (m' : List ℕ) → lo' ≤ lo → k ≤ k' → Beside m lo k m' → Beside m lo' k' m'
beside_wider m lo' lo k k' m' a b v = record {
  same_length = v.same_length;
  head = v.head;
  parts = λ j o. v.parts j (narrow j o);
  in_use = λ j h o. v.in_use j h (narrow j o);
}
  where
    narrow : (j : ℕ) → (j < lo') ⊎ (k' < j) → (j < lo) ⊎ (k < j)
    narrow j (inl x) = inl (omega arith)
    narrow j (inr x) = inr (omega arith)

-- one change after another
pub beside_then : (m : List ℕ) (lo k : ℕ) (m₁ m₂ : List ℕ) → Beside m lo k m₁ → Beside m₁ lo k m₂ → Beside m lo k m₂
beside_then m lo k m₁ m₂ v w = record {
  same_length = w.same_length ∙ v.same_length;
  head = λ x a b. w.head x a b ∙ v.head x a b;
  parts = λ j o. w.parts j o ∙ v.parts j o;
  in_use = λ j h o. w.in_use j h o ∙ v.in_use j h o;
}

-- a memory of the same length is right too
pub right_same : (m m' : List ℕ) → length m' ≡ length m → is_index_length m ≡ true → is_index_length m' ≡ true
unfolding is_index_length
right_same m m' l r = rw l r

-- the unused numbers of the first 64 are as they were
pub head_same : (m : List ℕ) (k : ℕ) (m' : List ℕ) → Beside m 0 k m' → drop 10 (take 64 m') ≡ drop 10 (take 64 m)
head_same m k m' v =
    let l = v.same_length in
    ext_get_or 0 _ _ (simp (length-drop, length-take) (omega arith))
    (λ x h.
    let y : 10 + x < 64 = (let p = length-drop 10 (take 64 m') in let q = length-take 64 m' in omega arith) in
    get_or-drop 10 (take 64 m') x 0 ∙ get_or-take 64 m' (10 + x) 0 y ∙ v.head (10 + x) (omega arith) y
    ∙ sym (get_or-drop 10 (take 64 m) x 0 ∙ get_or-take 64 m (10 + x) 0 y))

outside : (k j : ℕ) → (j < k) ⊎ (k < j) → j ≢ k
outside k j (inl x) = λ e. absurd (omega arith)
outside k j (inr x) = λ e. absurd (omega arith)

module _ (m : List ℕ) (k : ℕ) (u : UsedPart m k) (few : parts_of m ≤ 256) (others : others_zero m (parts_of m) ≡ true) where
  -- the part was changed
  module _ (p : List ℕ) (size : length p ≡ 128) where
    pub set_beside : Beside m k k (set_part m k p)
    set_beside = record {
      same_length = set_length m k p u.ends size;
      head = λ x a b. set_head m k p u.ends size x b;
      parts = λ j o. set_others m k p u.ends size j (outside k j o);
      in_use = λ j h o. set_in_use m k p u.ends size j h;
    }

    pub set_unused : others_zero (set_part m k p) (parts_of (set_part m k p)) ≡ true
    set_unused = rw (set_length m k p u.ends size) (zero_unused (set_part m k p) (parts_of m) (λ j h e. go j h e (ℕ_discrete j k)))
      where
        go : (j : ℕ) → j < parts_of m → in_use (set_part m k p) j ≡ false → Dec (j ≡ k) → all_zero (part (set_part m k p) j) ≡ true
        go j h e (yes q) = absurd (not_both (in_use m k) u.used (rw q at (sym (set_in_use m k p u.ends size j (omega arith)) ∙ e)))
        go j h e (no q) =
            rw (set_others m k p u.ends size j q) (unused_zero m (parts_of m) j others h (sym (set_in_use m k p u.ends size j (omega arith)) ∙ e))

  -- the part was set free
  cleared_ends : PartIn (without_bit m k) k
  cleared_ends = rw (cleared_length m k u) u.ends

  zeros : length {A = ℕ} (replicate 128 0) ≡ 128
  zeros = length-replicate {A = ℕ} 128 0

  pub freed_beside : Beside m k k (freed m k)
  freed_beside = record {
    same_length = set_length (without_bit m k) k _ cleared_ends zeros ∙ cleared_length m k u;
    head = λ x a b. set_head (without_bit m k) k _ cleared_ends zeros x b ∙ cleared_head m k u x a;
    parts = λ j o. set_others (without_bit m k) k _ cleared_ends zeros j (outside k j o) ∙ cleared_part m k u j;
    in_use = λ j h o. set_in_use (without_bit m k) k _ cleared_ends zeros j h ∙ cleared_others m k u j (outside k j o);
  }

  pub freed_unused : others_zero (freed m k) (parts_of (freed m k)) ≡ true
  freed_unused = rw freed_beside.same_length (zero_unused (freed m k) (parts_of m) (λ j h e. go j h e (ℕ_discrete j k)))
    where
      go : (j : ℕ) → j < parts_of m → in_use (freed m k) j ≡ false → Dec (j ≡ k) → all_zero (part (freed m k) j) ≡ true
      go j h e (yes q) = rw (q, set_part_lem (without_bit m k) k (replicate 128 0) cleared_ends zeros) (zeros_zero 128)
      go j h e (no q) =
          rw (set_others (without_bit m k) k (replicate 128 0) cleared_ends zeros j q, cleared_part m k u j)
          (unused_zero m (parts_of m) j others h (sym (set_in_use (without_bit m k) k (replicate 128 0) cleared_ends zeros j (omega arith) ∙ cleared_others m k u j q) ∙ e))

  pub freed_bits : bits_set (freed m k) + 1 ≡ bits_set m
  freed_bits = let a = set_bits (without_bit m k) k (replicate 128 0) cleared_ends zeros in let b = cleared_bits m k u in omega arith
