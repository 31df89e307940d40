-- A memory in which the numbers of one part changed: the part, what else is in the memory, and the code's way to change it.
use Prim.Native.Nat.{ℕ, ◌+◌, ◌*◌, ◌-◌, ◌/◌, ◌≤◌, ◌<◌}
use mathlib.Core.Path.{◌≡◌, sym, ap, ◌∙◌}
use mathlib.Core.List.{List, ◌++◌, append_assoc}
use mathlib.Core.Logic.{◌≢◌}
use native.Mathlib.Omega.{arith}
use native.Mathlib.Decide.{dec_lt}
use lib.ListN.{length, get_or, take, drop, take-append-drop, length-append, length-take, length-drop, get_or-append}
use lib.Seq.{take_at, drop_at, take-append-le, drop-append-le, drop-append-add, drop-drop, length-take-le, get_or-take}
use Rattle.memory.specs.Layout.{part, in_use, ones_of, bits_set}
use Rattle.layout.specs.Nodes.{PartIn}
use Rattle.layout.specs.PartSet.{set_part}

-- 128 numbers before the place where a memory changed
front : (m z : List ℕ) (a b : ℕ) → b + 128 ≤ a → a ≤ length m → take 128 (drop b (take a m ++ z)) ≡ take 128 (drop b (take a m))
front m z a b h g =
    let l : length (take a m) ≡ a = length-take-le a m g in
    let l1 : b ≤ length (take a m) = omega arith in
    let l2 : 128 ≤ length (drop b (take a m)) = simp length-drop (omega arith) in
    ap (take 128) (drop-append-le b (take a m) z l1) ∙ take-append-le 128 (drop b (take a m)) z l2

-- what lies behind it
behind : (x z : List ℕ) (n b : ℕ) → length x ≡ n → n ≤ b → drop b (x ++ z) ≡ drop (b - n) z
behind x z n b l h =
    let e : b ≡ length x + (b - n) = omega arith in
    ap (λ (i : ℕ). drop i (x ++ z)) e ∙ drop-append-add x z (b - n)

module _ (m : List ℕ) (k : ℕ) (p : List ℕ) (ends : PartIn m k) (size : length p ≡ 128) where
  pub set_length : length (set_part m k p) ≡ length m
  unfolding set_part
  set_length = simp (length-append, length-take, length-drop) (omega arith)

  -- the part itself
  pub set_part_lem : part (set_part m k p) k ≡ p
  unfolding set_part part
  set_part_lem =
      let fits : 64 + 128 * k ≤ length m = omega arith in
      ap (take 128) (drop_at (take (64 + 128 * k) m) (p ++ drop 128 (drop (64 + 128 * k) m)) (64 + 128 * k) (length-take-le _ m fits))
      ∙ take_at p (drop 128 (drop (64 + 128 * k) m)) 128 size

  part_before : (j : ℕ) → j < k → part (set_part m k p) j ≡ part m j
  unfolding set_part part
  part_before j l =
      let a = 64 + 128 * k in
      let b = 64 + 128 * j in
      let w : b + 128 ≤ a = omega arith in
      let fits : a ≤ length m = omega arith in
      front m (p ++ drop 128 (drop a m)) a b w fits ∙ sym (front m (drop a m) a b w fits) ∙ ap (λ (l : List ℕ). take 128 (drop b l)) (take-append-drop a m)

  part_behind : (j : ℕ) → k < j → part (set_part m k p) j ≡ part m j
  unfolding set_part part
  part_behind j l =
      let a = 64 + 128 * k in
      let b = 64 + 128 * j in
      let w : a + 128 ≤ b = omega arith in
      let fits : a ≤ length m = omega arith in
      let x : List ℕ = take a m ++ p in
      let y : List ℕ = drop 128 (drop a m) in
      let lx : length x ≡ a + 128 = simp length-append (omega (arith, length-take-le a m fits)) in
      let e : a + 128 + (b - (a + 128)) ≡ b = omega arith in
      ap (λ (l : List ℕ). take 128 (drop b l)) (sym (append_assoc (take a m) p y))
      ∙ ap (take 128) (behind x y (a + 128) b lx w ∙ ap (drop (b - (a + 128))) (drop-drop 128 a m) ∙ drop-drop (b - (a + 128)) (a + 128) m ∙ ap (λ (i : ℕ). drop i m) e)

  -- the others are as they were
  pub set_others : (j : ℕ) → j ≢ k → part (set_part m k p) j ≡ part m j
  set_others j n = go (dec_lt j k)
    where
      go : Dec (j < k) → part (set_part m k p) j ≡ part m j
      go (yes l) = part_before j l
      go (no l) = part_behind j (let q : j ≡ k → ⊥ = n in omega arith)

  -- so are the numbers before the parts
  pub set_head : (x : ℕ) → x < 64 → get_or (set_part m k p) x 0 ≡ get_or m x 0
  unfolding set_part
  set_head x h =
      let l = length-take-le (64 + 128 * k) m (omega arith) in
      get_or-append (take (64 + 128 * k) m) _ 0 x (omega arith) ∙ get_or-take (64 + 128 * k) m x 0 (omega arith)

  pub set_in_use : (j : ℕ) → j < 256 → in_use (set_part m k p) j ≡ in_use m j
  unfolding in_use
  set_in_use j h = rw (set_head (j / 32) (omega arith))

  pub set_bits : bits_set (set_part m k p) ≡ bits_set m
  unfolding set_part
  set_bits =
      let l = length-take-le (64 + 128 * k) m (omega arith) in
      ap ones_of (take-append-le 8 (take (64 + 128 * k) m) _ (omega arith) ∙ sym (take-append-le 8 (take (64 + 128 * k) m) (drop (64 + 128 * k) m) (omega arith))
      ∙ ap (take 8) (take-append-drop (64 + 128 * k) m))
