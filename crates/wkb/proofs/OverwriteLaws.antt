-- Bytes written over a list: some behind others.
use Prim.Native.Nat.{ℕ, ◌+◌, ◌≤◌}
use mathlib.Core.Path.{◌≡◌, sym, ap, ◌∙◌}
use mathlib.Core.List.{List, ◌++◌, append_assoc}
use native.Mathlib.Omega.{arith}
use lib.ListN.{length, take, drop, length-append, length-drop}
use lib.Seq.{take_at, drop_at, drop-drop, length-take-le}
use Rattle.wkb.specs.Bytes.{overwritten}

-- the list stays as long
pub length_overwritten : (out : List ℕ) (at : ℕ) (a : List ℕ) → at + length a ≤ length out
    → length (overwritten out at a) ≡ length out
unfolding overwritten
length_overwritten out at a h =
    rw (length-append, length-append, length-take-le at out (omega arith), length-drop) (omega arith)

-- bytes, and then others behind them
pub over_then : (out : List ℕ) (at : ℕ) (a b : List ℕ) (next : ℕ) → next ≡ at + length a → next + length b ≤ length out
    → overwritten (overwritten out at a) next b ≡ overwritten out at (a ++ b)
unfolding overwritten
over_then out at a b next e h =
    let front : List ℕ = take at out ++ a in
    let back : List ℕ = drop (at + length a) out in
    let n : length front ≡ next = length-append (take at out) a ∙ rw (length-take-le at out (omega arith)) (sym e) in
    let x : take next (front ++ back) ≡ front = take_at front back next n in
    let y : drop next (front ++ back) ≡ back = drop_at front back next n in
    let q : at + length a + length b ≡ at + length (a ++ b) = rw length-append (omega arith) in
    let z : drop (next + length b) (front ++ back) ≡ drop (at + length (a ++ b)) out
    = sym (drop-drop (length b) next (front ++ back)) ∙ ap (drop (length b)) y
    ∙ drop-drop (length b) (at + length a) out ∙ ap (λ (m : ℕ). drop m out) q in
    rw (x, z) (ap (λ (l : List ℕ). l ++ drop (at + length (a ++ b)) out) (append_assoc (take at out) a b))

-- the same of lists that are known by equations
pub written_then : (out out₁ out₂ : List ℕ) (at next : ℕ) (a b : List ℕ)
    → out₁ ≡ overwritten out at a → out₂ ≡ overwritten out₁ next b
    → next ≡ at + length a → next + length b ≤ length out → out₂ ≡ overwritten out at (a ++ b)
written_then out out₁ out₂ at next a b e f n h =
    f ∙ ap (λ (l : List ℕ). overwritten l next b) e ∙ over_then out at a b next n h

-- three parts, one behind another
pub three_written : (out out₁ out₂ out₃ a b d : List ℕ) (at n k : ℕ)
    → n ≡ at + length a → k ≡ n + length b → k + length d ≤ length out
    → out₁ ≡ overwritten out at a → out₂ ≡ overwritten out₁ n b → out₃ ≡ overwritten out₂ k d
    → out₃ ≡ overwritten out at (a ++ b ++ d)
three_written out out₁ out₂ out₃ a b d at n k i j h e f g =
    let w = written_then out out₁ out₂ at n a b e f i (omega arith) in
    let l : length (a ++ b) ≡ length a + length b = length-append a b in
    written_then out out₂ out₃ at k (a ++ b) d w g (omega arith) h
