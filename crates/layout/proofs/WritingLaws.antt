-- The memory written from a work area is the image of its parts.
use Prim.Native.Nat.{ℕ, zero, suc, ◌+◌, ◌*◌, ◌-◌, ◌≤◌}
use mathlib.Core.Path.{◌≡◌, refl, sym, ap, ◌∙◌}
use mathlib.Core.List.{List, [], ◌++◌, append_assoc, append-nil, flat_map}
use native.Mathlib.Omega.{arith}
use lib.ListN.{length, take, drop, set, replicate, length-append, length-take, length-drop, drop_of_length-le}
use lib.Seq.{take_at, take-add, drop_at, length-take-le}
use Rattle.plane.specs.Best.{up_from}
use Rattle.memory.specs.Image.{padded, bits_word, head_numbers, memory_of}
use Rattle.memory.proofs.HeadImage.{head_length}
use Rattle.layout.specs.Writing.{written}

-- The memory put together, first numbers first: the parts and the zeros take the place of what stood there.
module _ (m w : List ℕ) (parts height : ℕ) (fits : 64 + 128 * parts ≤ length m) (long : length w ≡ length m) where
  abbrev end : ℕ
  end = 64 + 128 * parts

  abbrev mid : List ℕ
  mid = take (end - 64) (drop 64 w)

  length_mid : length mid ≡ end - 64
  length_mid = simp (length-take, length-drop) (omega arith)

  module _ (m₁ : List ℕ) (e₁ : m₁ ≡ head_numbers parts height ++ drop 64 m) where
    length_1 : length m₁ ≡ length m
    length_1 =
        let h = head_length parts height in
        ap length e₁ ∙ length-append (head_numbers parts height) (drop 64 m) ∙ (let d = length-drop 64 m in omega arith)

    module _ (m₂ : List ℕ) (e₂ : m₂ ≡ take 64 m₁ ++ (mid ++ drop (end - 64) (drop 64 m₁))) where
      front : take 64 m₁ ≡ head_numbers parts height
      front = ap (take 64) e₁ ∙ take_at (head_numbers parts height) (drop 64 m) 64 (head_length parts height)

      two_is : m₂ ≡ (head_numbers parts height ++ mid) ++ drop (end - 64) (drop 64 m₁)
      two_is = e₂ ∙ ap (λ (l : List ℕ). l ++ (mid ++ drop (end - 64) (drop 64 m₁))) front ∙ sym (append_assoc (head_numbers parts height) mid (drop (end - 64) (drop 64 m₁)))

      length_both : length (head_numbers parts height ++ mid) ≡ end
      length_both = let h = head_length parts height in let l = length_mid in length-append (head_numbers parts height) mid ∙ omega arith

      length_2 : length m₂ ≡ length m
      length_2 =
          let a = length_both in
          let b = length-drop (end - 64) (drop 64 m₁) in
          let c = length-drop 64 m₁ in
          let d = length_1 in
          ap length two_is ∙ length-append (head_numbers parts height ++ mid) (drop (end - 64) (drop 64 m₁)) ∙ omega arith

      pub put_together : (m₃ : List ℕ) → m₃ ≡ take end m₂ ++ (replicate (length m₂ - end) 0 ++ []) → m₃ ≡ written (length m) parts height w
      unfolding written
      put_together m₃ e₃ =
          let q : end - 64 ≡ 128 * parts = omega arith in
          e₃ ∙ ap (λ (l : List ℕ). l ++ (replicate (length m₂ - end) 0 ++ [])) (ap (take end) two_is ∙ take_at (head_numbers parts height ++ mid) (drop (end - 64) (drop 64 m₁)) end length_both)
          ∙ rw (append-nil, length_2, q) (append_assoc (head_numbers parts height) (take (128 * parts) (drop 64 w)) (replicate (length m - end) 0))

-- The memory written from parts that stand in a work area is their image.
pub written_image : (N height : ℕ) (ps : List (List ℕ)) (w₀ w : List ℕ) (parts : ℕ) → length ps ≡ parts → 64 ≤ length w₀ → 64 + 128 * parts ≤ length w → take (64 + 128 * parts) w ≡ take 64 w₀ ++ flat_map (λ p. p) ps
    → written (64 + 128 * N) parts height w ≡ memory_of N height ps
unfolding written memory_of padded
written_image N height ps w₀ w parts n s f e =
    let all : List ℕ = flat_map (λ p. p) ps in
    let l : length (take 64 w₀) ≡ 64 = length-take-le 64 w₀ s in
    let d : drop 64 (take (64 + 128 * parts) w) ≡ all = ap (drop 64) e ∙ drop_at (take 64 w₀) all 64 l in
    let t : take (128 * parts) (drop 64 w) ≡ all =
    sym (drop_at (take 64 w) (take (128 * parts) (drop 64 w)) 64 (length-take-le 64 w (omega arith))) ∙ ap (drop 64) (sym (take-add 64 (128 * parts) w)) ∙ d in
    let k : length all ≡ 128 * parts = ap length (sym t) ∙ (let x = length-take (128 * parts) (drop 64 w) in let y = length-drop 64 w in omega arith) in
    let h = head_length parts height in
    let g : length (head_numbers parts height ++ all) ≡ 64 + 128 * parts = length-append (head_numbers parts height) all ∙ omega arith in
    rw (n, t, g) (sym (append_assoc (head_numbers parts height) all (replicate (64 + 128 * N - (64 + 128 * parts)) 0)))

-- a list after the first n words of bits were written to it
pub words_put : ℕ → ℕ → List ℕ → List ℕ
words_put parts zero h = h
words_put parts (suc n) h = set (words_put parts n h) n (bits_word parts n)

pub words_none : (parts : ℕ) (h : List ℕ) → h ≡ words_put parts 0 h
unfolding words_put
words_none parts h = refl

pub words_next : (parts j b : ℕ) (h l : List ℕ) → l ≡ words_put parts j h → b ≡ bits_word parts j → set l j b ≡ words_put parts (j + 1) h
unfolding words_put
words_next parts j b h l e f = let q : j + 1 ≡ suc j = omega arith in rw (e, f, q)

-- the first 64 numbers, written one after another onto zeros
pub head_put : (h : List ℕ) (parts height j : ℕ) → j ≡ 8 → h ≡ words_put parts j (replicate 64 0) → set (set h 8 height) 9 (parts - 1) ≡ head_numbers parts height
unfolding head_numbers padded up_from words_put
head_put h parts height j q e = rw (e, q)

-- The three writes of the code, one after another.
module _ (m w h mid z : List ℕ) (parts height : ℕ) (fits : 64 + 128 * parts ≤ length m) (long : length w ≡ length m) (head : h ≡ head_numbers parts height) where
  abbrev stop : ℕ
  stop = 64 + 128 * parts

  abbrev one : List ℕ
  one = h ++ drop 64 m

  abbrev two : List ℕ
  two = take 64 one ++ (mid ++ drop (stop - 64) (drop 64 one))

  length_one : length one ≡ length m
  length_one =
      let a = ap length head ∙ head_length parts height in
      let d = length-drop 64 m in
      length-append h (drop 64 m) ∙ omega arith

  pub writes : mid ≡ take (stop - 64) (drop 64 w) → z ≡ replicate (length (take (length two - stop) (drop stop two))) 0
      → take stop two ++ (z ++ drop (length two - stop) (drop stop two)) ≡ written (length m) parts height w
  writes e f =
      let l = length_one in
      let from : List ℕ = take (stop - 64) (drop 64 w) in
      let i : one ≡ head_numbers parts height ++ drop 64 m = ap (λ (x : List ℕ). x ++ drop 64 m) head in
      let j : two ≡ take 64 one ++ (from ++ drop (stop - 64) (drop 64 one)) = ap (λ (x : List ℕ). take 64 one ++ (x ++ drop (stop - 64) (drop 64 one))) e in
      let k : length (take (length two - stop) (drop stop two)) ≡ length two - stop = simp (length-take, length-drop) (omega arith) in
      let o : drop (length two - stop) (drop stop two) ≡ [] = drop_of_length-le (drop stop two) {i = length two - stop} (rw length-drop (omega arith)) in
      put_together m w parts height fits long one i two j (take stop two ++ (z ++ drop (length two - stop) (drop stop two)))
      (ap (λ (x : List ℕ). take stop two ++ (x ++ drop (length two - stop) (drop stop two))) (f ∙ ap (λ (y : ℕ). replicate y 0) k) ∙ ap (λ (x : List ℕ). take stop two ++ (replicate (length two - stop) 0 ++ x)) o)
