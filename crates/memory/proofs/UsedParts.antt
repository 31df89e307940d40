-- The bits that are set are those of the parts reached: 'the number of bits set is the number of nodes', so that no other bit is set.
use Prim.Native.Nat.{ℕ, zero, suc, ◌+◌, ◌*◌, ◌/◌, ◌%◌, ◌^◌, ◌<◌, ◌≤◌}
use mathlib.Core.Path.{◌≡◌, refl, sym, ap, ◌∙◌}
use mathlib.Core.Bool.{Bool, true, false, ◌&&◌, not, cond}
use mathlib.Core.List.{List, [], ◌∷◌, ◌++◌}
use mathlib.Core.Option.{some}
use native.Mathlib.Omega.{arith}
use native.Mathlib.Nat.{add-zero, div-one, div-eq_of_lt}
use native.Mathlib.Decide.{dec_le}
use borrow.Author.Tests.{eq-eqb}
use lib.Count.{ones_in, ones, ones_step}
use lib.Dec.{eqb}
use lib.ListN.{length, take, get_or}
use lib.Pow.{shr-shr}
use lib.Seq.{take-suc}
use Rattle.polygons.specs.Lists.{any}
use Rattle.polygons.proofs.Booleans.{neither, both, split_and}
use Rattle.tree.specs.Lists.{All, Pairs}
use Rattle.tree.specs.Tree.{Tree, top}
use Rattle.tree.proofs.Lists.{all_map, all_both}
use Rattle.plane.specs.Plane.{plane_space}
use Rattle.memory.specs.Layout.{parts_of, in_use, ones_of, root_in}
use Rattle.memory.specs.Reading.{reading}
use Rattle.memory.specs.Reached.{reached}
use Rattle.memory.proofs.ReadingLaws.{node_reaches, read_as, index_length}

abbrev one : Bool → ℕ
one b = cond b 1 0

-- how many of the n numbers from lo on pass a test
unfoldable count_from : (ℕ → Bool) → ℕ → ℕ → ℕ
count_from u lo zero = 0
count_from u lo (suc n) = one (u lo) + count_from u (lo + 1) n

one_le : (a b : Bool) → (a ≡ true → b ≡ true) → one a ≤ one b
one_le true b h = rw (h refl) (omega arith)
one_le false b h = omega arith

count_le : (u v : ℕ → Bool) → ((i : ℕ) → u i ≡ true → v i ≡ true) → (lo n : ℕ) → count_from u lo n ≤ count_from v lo n
unfolding count_from
count_le u v h lo zero = omega arith
count_le u v h lo (suc n) =
    let a = one_le (u lo) (v lo) (h lo) in
    let ih = count_le u v h (lo + 1) n in
    omega arith

-- one that passes v and not u makes v's count larger
count_more : (u v : ℕ → Bool) → ((i : ℕ) → u i ≡ true → v i ≡ true) → (j lo n : ℕ) → u j ≡ false → v j ≡ true → lo ≤ j → j < lo + n
    → count_from u lo n + 1 ≤ count_from v lo n
unfolding count_from
count_more u v h j lo zero f t a b = absurd (omega arith)
count_more u v h j lo (suc n) f t a b = go (dec_le j lo) (count_le u v h (lo + 1) n) (count_more u v h j (lo + 1) n f t)
  where
    go : Dec (j ≤ lo) → count_from u (lo + 1) n ≤ count_from v (lo + 1) n → (lo + 1 ≤ j → j < lo + 1 + n → count_from u (lo + 1) n + 1 ≤ count_from v (lo + 1) n)
        → one (u lo) + count_from u (lo + 1) n + 1 ≤ one (v lo) + count_from v (lo + 1) n
    go (yes l) c ih =
        let e : j ≡ lo = omega arith in
        let x : one (u lo) ≡ 0 = rw (← e, f) in
        let y : one (v lo) ≡ 1 = rw (← e, t) in
        omega arith
    go (no l) c ih =
        let x = one_le (u lo) (v lo) (h lo) in
        let y = ih (omega arith) (omega arith) in
        omega arith

-- strictly rising numbers that pass are at most as many as pass
rising_count : (u : ℕ → Bool) (lo n : ℕ) (ks : List ℕ) → Pairs ◌<◌ ks → All (λ j. (lo ≤ j) × (j < lo + n)) ks → All (λ j. u j ≡ true) ks
    → length ks ≤ count_from u lo n
unfolding count_from Pairs All
rising_count u lo n [] p r t = omega arith
rising_count u lo zero (k ∷ ks) p r t = let a = r.0.0 in let b = r.0.1 in absurd (omega arith)
rising_count u lo (suc n) (k ∷ ks) p r t = go (dec_le k lo) (rising_count u (lo + 1) n ks p.1) (rising_count u (lo + 1) n (k ∷ ks) p)
  where
    later : lo ≤ k → All (λ j. (lo + 1 ≤ j) × (j < lo + 1 + n)) ks
    later a = all_map (λ j. (k < j) × ((lo ≤ j) × (j < lo + suc n))) (λ j. (lo + 1 ≤ j) × (j < lo + 1 + n)) ks
        (λ j q. let x = q.0 in let y = q.1.1 in (omega arith, omega arith)) (all_both _ _ ks p.0 r.1)

    go : Dec (k ≤ lo) → (All (λ j. (lo + 1 ≤ j) × (j < lo + 1 + n)) ks → All (λ j. u j ≡ true) ks → length ks ≤ count_from u (lo + 1) n)
        → (((lo + 1 ≤ k) × (k < lo + 1 + n)) × All (λ j. (lo + 1 ≤ j) × (j < lo + 1 + n)) ks → (u k ≡ true) × All (λ j. u j ≡ true) ks → length (k ∷ ks) ≤ count_from u (lo + 1) n)
        → length (k ∷ ks) ≤ one (u lo) + count_from u (lo + 1) n
    go (yes l) ih _ =
        let a = r.0.0 in
        let e : k ≡ lo = omega arith in
        let x : one (u lo) ≡ 1 = rw (← e, t.0) in
        let y = ih (later a) t.1 in
        omega arith
    go (no l) _ ih =
        let a = r.0.0 in
        let b = r.0.1 in
        let y = ih ((omega arith, omega arith), later a) t in
        omega arith

-- not one of the list
none_is : (j : ℕ) (ks : List ℕ) → any (eqb j) ks ≡ false → All (λ i. eqb j i ≡ false) ks
unfolding any All
none_is j [] e = tt
none_is j (k ∷ ks) e = let f = neither (eqb j k) (any (eqb j) ks) e in (f.0, none_is j ks f.1)

-- where the strictly rising numbers are as many as pass, each that passes is one of them
all_counted : (u : ℕ → Bool) (n : ℕ) (ks : List ℕ) → Pairs ◌<◌ ks → All (λ j. (0 ≤ j) × (j < 0 + n)) ks → All (λ j. u j ≡ true) ks → length ks ≡ count_from u 0 n
    → (j : ℕ) → j < n → u j ≡ true → any (eqb j) ks ≡ true
all_counted u n ks p r t e j h q = go (any (eqb j) ks) refl
  where
    other : ℕ → Bool
    other i = u i && not (eqb j i)

    go : (b : Bool) → any (eqb j) ks ≡ b → b ≡ true
    go true f = refl
    go false f =
        let t' = all_map (λ i. (u i ≡ true) × (eqb j i ≡ false)) (λ i. other i ≡ true) ks (λ i x. both _ _ x.0 (ap not x.1))
        (all_both (λ i. u i ≡ true) (λ i. eqb j i ≡ false) ks t (none_is j ks f)) in
        let a = rising_count other 0 n ks p r t' in
        let out : other j ≡ false = rw (q, eq-eqb j j refl) in
        let b = count_more other u (λ i x. (split_and (u i) (not (eqb j i)) x).0) j 0 n out q (omega arith) (omega arith) in
        absurd (omega arith)

-- bit i of a number
bit : ℕ → ℕ → Bool
bit w i = eqb (w / 2 ^ i % 2) 1

one_bit : (d : ℕ) → d < 2 → one (eqb d 1) ≡ d
one_bit d h = go (dec_le d 0)
  where
    go : Dec (d ≤ 0) → one (eqb d 1) ≡ d
    go (yes l) = let e : d ≡ 0 = omega arith in rw e
    go (no l) = let e : d ≡ 1 = omega arith in rw e

-- the ones of a number: those of n bits, and those above
ones_from : (w lo n : ℕ) → ones (w / 2 ^ lo) ≡ count_from (bit w) lo n + ones (w / 2 ^ (lo + n))
unfolding count_from bit
ones_from w lo zero = rw (add-zero lo) (omega arith)
ones_from w lo (suc n) =
    let v = w / 2 ^ lo in
    let half : v / 2 ≡ w / 2 ^ (lo + 1) = shr-shr w lo 1 in
    let a = ones_step v ∙ ap (λ x. v % 2 + ones x) half in
    let b = ones_from w (lo + 1) n in
    let c : one (eqb (v % 2) 1) ≡ v % 2 = one_bit (v % 2) (omega arith) in
    let d : ones (w / 2 ^ (lo + 1 + n)) ≡ ones (w / 2 ^ (lo + suc n)) = (let q : lo + 1 + n ≡ lo + suc n = omega arith in rw q) in
    omega arith

ones_zero : ones 0 ≡ 0
unfolding ones ones_in
ones_zero = refl

-- a number below 2 ^ 32: its ones are those of 32 bits
ones_32 : (w : ℕ) → w < 2 ^ 32 → ones w ≡ count_from (bit w) 0 32
ones_32 w h =
    let a : ones (w / 1) ≡ count_from (bit w) 0 32 + ones (w / 2 ^ 32) = ones_from w 0 32 in
    let b : ones (w / 1) ≡ ones w = ap ones (div-one w) in
    let c : ones (w / 2 ^ 32) ≡ 0 = ap ones (div-eq_of_lt h) ∙ ones_zero in
    omega arith

-- the same numbers counted from a on
count_shift : (u v : ℕ → Bool) (a lo n : ℕ) → ((i : ℕ) → lo ≤ i → i < lo + n → u (a + i) ≡ v i) → count_from u (a + lo) n ≡ count_from v lo n
unfolding count_from
count_shift u v a lo zero h = refl
count_shift u v a lo (suc n) h =
    let q : a + lo + 1 ≡ a + (lo + 1) = omega arith in
    rw (q, h lo (omega arith) (omega arith), count_shift u v a (lo + 1) n (λ i x y. h i (omega arith) (omega arith)))

count_append : (u : ℕ → Bool) (lo n k : ℕ) → count_from u lo (n + k) ≡ count_from u lo n + count_from u (lo + n) k
unfolding count_from
count_append u lo zero k = rw (add-zero lo) (let q : 0 + k ≡ k = omega arith in rw q (omega arith))
count_append u lo (suc n) k =
    let q : suc n + k ≡ suc (n + k) = omega arith in
    let r : lo + suc n ≡ lo + 1 + n = omega arith in
    rw (q, r, count_append u (lo + 1) n k) (omega arith)

-- the bits of number i are those of the parts from 32 * i on
word_bits : (m : List ℕ) (i : ℕ) → count_from (in_use m) (32 * i) 32 ≡ count_from (bit (get_or m i 0)) 0 32
unfolding in_use bit
word_bits m i =
    ap (λ k. count_from (in_use m) k 32) (sym (add-zero (32 * i)))
    ∙ count_shift (in_use m) (bit (get_or m i 0)) (32 * i) 0 32 λ j a b.
    let d : (32 * i + j) / 32 ≡ i = omega arith in
    let r : (32 * i + j) % 32 ≡ j = omega arith in
    rw (d, r)

pub ones_last : (l : List ℕ) (w : ℕ) → ones_of (l ++ (w ∷ [])) ≡ ones_of l + ones w
unfolding ones_of
ones_last [] w = omega arith
ones_last (v ∷ l) w = let ih = ones_last l w in omega arith

count_none : (u : ℕ → Bool) (lo : ℕ) → count_from u lo 0 ≡ 0
unfolding count_from
count_none u lo = refl

-- the ones of the first numbers are the parts in use that they have a bit for
words_count : (m : List ℕ) (i : ℕ) → i ≤ length m → ((j : ℕ) → j < i → get_or m j 0 < 2 ^ 32) → ones_of (take i m) ≡ count_from (in_use m) 0 (32 * i)
unfolding ones_of
words_count m zero h f = sym (count_none (in_use m) 0)
words_count m (suc i) h f =
    let ih = words_count m i (omega arith) (λ j l. f j (omega arith)) in
    let q : 32 * suc i ≡ 32 * i + 32 = omega arith in
    let z : 0 + 32 * i ≡ 32 * i = omega arith in
    let w : ones (get_or m i 0) ≡ count_from (in_use m) (32 * i) 32 = ones_32 (get_or m i 0) (f i (omega arith)) ∙ sym (word_bits m i) in
    ap ones_of (take-suc m i 0 (omega arith)) ∙ ones_last (take i m) (get_or m i 0)
    ∙ rw (q, count_append (in_use m) 0 (32 * i) 32, z, ih, w)

module _ (fanout : ℕ) where
  -- every part in use is one that the reading reaches
  pub used_reached : (m : List ℕ) (t : Tree (plane_space fanout)) → ((i : ℕ) → i < 8 → get_or m i 0 < 2 ^ 32) → reading fanout m ≡ some (some t)
      → (j : ℕ) → j < 256 → in_use m j ≡ true → any (eqb j) (reached t.level m (root_in m)) ≡ true
  used_reached m t f e j h u =
      let r = read_as fanout m t e in
      let l = index_length m r.right in
      let c = node_reaches fanout m t.level 0 (root_in m) (top (plane_space fanout) t) (omega arith) r.root_node in
      let ks = reached t.level m (root_in m) in
      let n : length ks ≡ count_from (in_use m) 0 256 = c.count ∙ r.bits ∙ words_count m 8 (omega arith) f in
      let a = all_map (λ i. (i < parts_of m) × (in_use m i ≡ true)) (λ i. (0 ≤ i) × (i < 0 + 256)) ks (λ i x. let y = x.0 in (omega arith, omega arith)) c.used in
      let b = all_map (λ i. (i < parts_of m) × (in_use m i ≡ true)) (λ i. in_use m i ≡ true) ks (λ i x. x.1) c.used in
      all_counted (in_use m) 256 ks c.rising a b n j h u
