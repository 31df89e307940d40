-- A memory that holds some parts and zeros behind them, read back.
use mathlib.Core.Path.{◌≡◌, refl, ◌∙◌}
use mathlib.Core.Bool.{true, ◌||◌, or-true}
use mathlib.Core.List.{List, [], ◌∷◌, ◌++◌, append_assoc, flat_map}
use Prim.Native.Nat.{ℕ, zero, suc, ◌+◌, ◌*◌, ◌-◌, ◌≤◌, ◌<◌}
use native.Mathlib.Omega.{arith}
use native.Mathlib.Decide.{dec_lt}
use borrow.Author.Tests.{lt-ltb, le-leb, eq-eqb}
use lib.Dec.{eqb, ltb}
use lib.ListN.{length, take, drop, replicate, length-append}
use lib.Seq.{take_at, drop_at, drop-drop}
use Rattle.polygons.proofs.Booleans.{both, split_and}
use Rattle.tree.specs.Lists.{All}
use Rattle.memory.specs.Layout.{parts_of, is_index_length, part, in_use, bits_set, height_in, root_in, all_zero, others_zero}
use Rattle.memory.specs.Image.{padded, head_numbers, memory_of}
use Rattle.memory.proofs.PartImage.{length_padded, drop_padded}
use Rattle.memory.proofs.HeadImage.{head_length, head_height, head_root, head_zero, head_bits, head_in_use}
use Rattle.memory.proofs.NodeImage.{Holds, Sized}
use Rattle.memory.proofs.ReadingLaws.{zeros_zero}

-- what is left of zeros is zero
zero_drop : (n : ℕ) (l : List ℕ) → all_zero l ≡ true → all_zero (drop n l) ≡ true
unfolding all_zero
zero_drop zero l h = h
zero_drop (suc n) [] h = refl
zero_drop (suc n) (a ∷ l) h = zero_drop n l (split_and (eqb a 0) (all_zero l) h).1

zero_take : (n : ℕ) (l : List ℕ) → all_zero l ≡ true → all_zero (take n l) ≡ true
unfolding all_zero
zero_take zero l h = refl
zero_take (suc n) [] h = refl
zero_take (suc n) (a ∷ l) h = let t = split_and (eqb a 0) (all_zero l) h in both (eqb a 0) _ t.0 (zero_take n l t.1)

-- parts one after another have 128 numbers each
length_parts : (ps : List (List ℕ)) → Sized ps → length (flat_map (λ p. p) ps) ≡ 128 * length ps
unfolding flat_map All
length_parts [] s = refl
length_parts (p ∷ ps) s = let ih = length_parts ps s.1 in let h = s.0 in rw length-append (omega arith)

-- parts that stand in a memory from the k-th on, in use, are held there
holds_from : (m : List ℕ) (k : ℕ) (ps : List (List ℕ)) (rest : List ℕ) → Sized ps → k + length ps ≤ parts_of m →
    ((j : ℕ) → j < k + length ps → in_use m j ≡ true) → drop (64 + 128 * k) m ≡ flat_map (λ p. p) ps ++ rest → Holds m k ps
unfolding Holds All flat_map part
holds_from m k [] rest s l u e = tt
holds_from m k (p ∷ ps) rest s l u e =
    let next : drop (64 + 128 * suc k) m ≡ flat_map (λ p. p) ps ++ rest =
    let f : 64 + 128 * suc k ≡ 64 + 128 * k + 128 = omega arith in
    rw (f, ← (drop-drop 128 (64 + 128 * k) m), e, append_assoc) (drop_at p _ 128 s.0) in
    let own : part m k ≡ p = rw (e, append_assoc) (take_at p _ 128 s.0) in
    (record { there = omega arith; used = u k (omega arith); same = own }, holds_from m (suc k) ps rest s.1 (omega arith) (λ j h. u j (omega arith)) next)

-- where each part is in use or zero, the test of unused parts passes
others_zero_lem : (m : List ℕ) (n : ℕ) → ((k : ℕ) → k < n → in_use m k || all_zero (part m k) ≡ true) → others_zero m n ≡ true
unfolding others_zero
others_zero_lem m zero f = refl
others_zero_lem m (suc n) f = both _ _ (others_zero_lem m n (λ k h. f k (omega arith))) (f n (omega arith))

-- the numbers in use, the zeros behind them, and all that stands behind the first 64
abbrev filled : ℕ → List (List ℕ) → List ℕ
filled height ps = head_numbers (length ps) height ++ flat_map (λ p. p) ps

abbrev unused : ℕ → ℕ → List (List ℕ) → List ℕ
unused N height ps = replicate (64 + 128 * N - length (filled height ps)) 0

abbrev behind : ℕ → ℕ → List (List ℕ) → List ℕ
behind N height ps = flat_map (λ p. p) ps ++ unused N height ps

memory_is : (N height : ℕ) (ps : List (List ℕ)) → memory_of N height ps ≡ head_numbers (length ps) height ++ behind N height ps
unfolding memory_of padded
memory_is N height ps = append_assoc (head_numbers (length ps) height) (flat_map (λ p. p) ps) (unused N height ps)

module _ (N height : ℕ) (ps : List (List ℕ)) where
  -- the height is read back
  pub memory_height : height_in (memory_of N height ps) ≡ height
  memory_height = rw (memory_is N height ps) (head_height (length ps) height (behind N height ps))

  -- the root's part is the last in use
  pub memory_root : root_in (memory_of N height ps) ≡ length ps - 1
  memory_root = rw (memory_is N height ps) (head_root (length ps) height (behind N height ps))

  -- the unused numbers of the first 64 are zero
  pub memory_head_zero : all_zero (drop 10 (take 64 (memory_of N height ps))) ≡ true
  memory_head_zero = rw (memory_is N height ps) (head_zero (length ps) height (behind N height ps))

  -- as many bits are set as there are parts
  pub memory_bits : length ps ≤ 256 → bits_set (memory_of N height ps) ≡ length ps
  memory_bits h = rw (memory_is N height ps) (head_bits (length ps) height (behind N height ps) h)

  -- exactly the parts given are in use
  pub memory_in_use : (k : ℕ) → k < 256 → in_use (memory_of N height ps) k ≡ ltb k (length ps)
  memory_in_use k h = rw (memory_is N height ps) (head_in_use (length ps) height (behind N height ps) k h)

module _ (N height : ℕ) (ps : List (List ℕ)) (sized : Sized ps) (fit : length ps ≤ N) where
  length_filled : length (filled height ps) ≡ 64 + 128 * length ps
  length_filled =
      let a = head_length (length ps) height in
      let b = length_parts ps sized in
      rw length-append (omega arith)

  -- the length is that of a memory of N parts
  pub memory_length : length (memory_of N height ps) ≡ 64 + 128 * N
  unfolding memory_of
  memory_length = length_padded (64 + 128 * N) (filled height ps) (let l = length_filled in omega arith)

  -- there are N parts
  pub memory_parts : parts_of (memory_of N height ps) ≡ N
  memory_parts = let l = memory_length in omega arith

  -- the length is right
  pub memory_right : 1 ≤ N → N ≤ 256 → is_index_length (memory_of N height ps) ≡ true
  unfolding is_index_length
  memory_right h k = rw (memory_parts, le-leb 1 N h, le-leb N 256 k, eq-eqb (length (memory_of N height ps)) (64 + 128 * N) memory_length)

  -- the parts given are held, from part 0 on
  pub memory_holds : N ≤ 256 → Holds (memory_of N height ps) 0 ps
  memory_holds h =
      let m = memory_of N height ps in
      let q = memory_parts in
      let used : (j : ℕ) → j < 0 + length ps → in_use m j ≡ true =
      λ j g. memory_in_use N height ps j (omega arith) ∙ lt-ltb j (length ps) (omega arith) in
      holds_from m 0 ps (unused N height ps) sized (omega arith) used
      (rw (memory_is N height ps) (drop_at (head_numbers (length ps) height) (behind N height ps) 64 (head_length (length ps) height)))

  -- every other part is zero
  pub memory_rest : (k : ℕ) → length ps ≤ k → all_zero (part (memory_of N height ps) k) ≡ true
  unfolding part memory_of
  memory_rest k h =
      let f : 64 + 128 * k ≡ 64 + 128 * length ps + 128 * (k - length ps) = omega arith in
      rw (
        f,
        ← (drop-drop (128 * (k - length ps)) (64 + 128 * length ps) (memory_of N height ps)),
        drop_padded (64 + 128 * N) (64 + 128 * length ps) (filled height ps) length_filled,
      )
      (zero_take 128 _ (zero_drop (128 * (k - length ps)) _ (zeros_zero (64 + 128 * N - (64 + 128 * length ps)))))

  -- so the test of unused parts passes
  pub memory_others : N ≤ 256 → others_zero (memory_of N height ps) N ≡ true
  memory_others h = others_zero_lem (memory_of N height ps) N λ k l. go k l (dec_lt k (length ps))
    where
      go : (k : ℕ) → k < N → Dec (k < length ps) → in_use (memory_of N height ps) k || all_zero (part (memory_of N height ps) k) ≡ true
      go k l (yes u) = rw (memory_in_use N height ps k (omega arith), lt-ltb k (length ps) u)
      go k l (no u) = rw (memory_rest k (omega arith), or-true)
