-- What the stores of a node's part leave: the rectangles with zeros behind them, the whole part, the part in the work area.
use Prim.Native.Nat.{ℕ, ◌+◌, ◌*◌, ◌-◌, ◌≤◌}
use mathlib.Core.Path.{◌≡◌, sym, ap, ◌∙◌}
use mathlib.Core.List.{List, [], ◌∷◌, ◌++◌, append_assoc, append-nil}
use native.Mathlib.Omega.{arith}
use borrow.Rule.Slice.PartMut.{put_mid}
use lib.ListN.{length, take, drop, set, replicate, length-take, length-drop, replicate-append-replicate, drop_of_length-le}
use lib.Seq.{take_at, drop_at, drop-drop}
use Rattle.geometry.specs.declared.polygon.Polygon.{Polygon}
use Rattle.geometry.specs.Numbers.{numbers_of, rects_in, rects_of, Appended}
use Rattle.geometry.proofs.NumberLaws.{length_rects, length_numbers, numbers_take}
use Rattle.memory.specs.Image.{padded, node_part}
use Rattle.memory.proofs.PartImage.{length_padded}
use Rattle.layout.specs.declared.node.Node.{Node}
use Rattle.layout.specs.Loaded.{with_node}
use Rattle.layout.specs.Parts.{RectsStored}

-- a list filled up in two goes
padded_more : (n k : ℕ) (l : List ℕ) → length l ≤ n → padded (n + k) l ≡ padded n l ++ replicate k 0
unfolding padded
padded_more n k l h =
    let e : n + k - length l ≡ (n - length l) + k = omega arith in
    rw (e, append_assoc, replicate-append-replicate)

-- the rectangles were stored, and the rest was zeroed
pub rects_stored : (p : Polygon) (l₀ l z : List ℕ) → length l₀ ≡ 126 → p.count ≤ 16 → Appended l₀ 0 (rects_of p) 16 l p.count
    → z ≡ replicate (length (take (length l - 4 * p.count) (drop (4 * p.count) l))) 0
    → RectsStored p (put_mid (4 * p.count) (length l - 4 * p.count) l z)
unfolding padded rects_in
rects_stored p l₀ l z h few a e =
    let n = p.count in
    let s = a.same_length in
    let q : rects_in l n ≡ rects_of p = a.list in
    let c : length (rects_of p) ≡ n = ap length (sym q) ∙ length_rects l n in
    let u : take (4 * n) l ≡ numbers_of (rects_of p) = sym (numbers_take l n (omega arith)) ∙ ap numbers_of q in
    let v = length_numbers (rects_of p) in
    let k : length (take (length l - 4 * n) (drop (4 * n) l)) ≡ 126 - length (numbers_of (rects_of p)) = simp (length-take, length-drop) (omega arith) in
    let o : length (drop (4 * n) l) ≤ length l - 4 * n = simp length-drop (omega arith) in
    let r : drop (length l - 4 * n) (drop (4 * n) l) ≡ [] = drop_of_length-le (drop (4 * n) l) o in
    record {
      list =
          ap (λ (t : List ℕ). t ++ (z ++ drop (length l - 4 * n) (drop (4 * n) l))) u
          ∙ ap (λ (t : List ℕ). numbers_of (rects_of p) ++ (z ++ t)) r
          ∙ ap (λ (t : List ℕ). numbers_of (rects_of p) ++ t) (append-nil z ∙ e ∙ ap (λ (j : ℕ). replicate j 0) k);
      count_is = c;
    }

-- the rectangles were written behind the two counts
rects_written : (a b : ℕ) (l q : List ℕ) → length l ≡ 126 → put_mid 2 126 (a ∷ b ∷ l) q ≡ a ∷ b ∷ q
rects_written a b l q h =
    let s : length l ≤ 126 = omega arith in
    let e : drop 126 l ≡ [] = drop_of_length-le l s in
    ap (λ (z : List ℕ). a ∷ b ∷ (q ++ z)) e ∙ ap (λ (z : List ℕ). a ∷ b ∷ z) (append-nil q)

-- a part after its rectangles were stored in it
abbrev with_rects : List ℕ → List ℕ → List ℕ
with_rects p₀ q = put_mid 2 (length p₀ - 2) p₀ q

-- the whole part
pub node_stored : (p₀ : List ℕ) (p : Polygon) (n : Node) (q m : List ℕ) → length p₀ ≡ 128 → p.count ≤ 16 → length n.items ≡ 27 → RectsStored p q
    → m ≡ with_node (with_rects p₀ q) n → set m 0 p.count ≡ node_part (rects_of p) n.count n.items
unfolding node_part with_node padded
node_stored [] p n q m h few fit x e = absurd (omega arith)
node_stored (a ∷ []) p n q m h few fit x e = absurd (omega arith)
node_stored (a ∷ b ∷ l) p n q m h few fit x e =
    let u = numbers_of (rects_of p) in
    let zs : List ℕ = replicate 62 0 in
    let i : length (a ∷ b ∷ l) - 2 ≡ 126 = omega arith in
    let j : length l ≡ 126 = omega arith in
    let w : with_rects (a ∷ b ∷ l) q ≡ a ∷ b ∷ q = ap (λ (k : ℕ). put_mid 2 k (a ∷ b ∷ l) q) i ∙ rects_written a b l q j in
    let c = x.count_is in
    let v = length_numbers (rects_of p) in
    let y : q ≡ padded 64 u ++ zs = x.list ∙ padded_more 64 62 u (omega arith) in
    let o : length (padded 64 u) ≡ 64 = length_padded 64 u (omega arith) in
    let front : take 64 q ≡ padded 64 u = ap (take 64) y ∙ take_at (padded 64 u) zs 64 o in
    let back : drop 64 q ≡ zs = ap (drop 64) y ∙ drop_at (padded 64 u) zs 64 o in
    let rest : drop 91 q ≡ replicate 35 0 = sym (drop-drop 27 64 q) ∙ ap (drop 27) back in
    let f : 62 - length n.items ≡ 35 = omega arith in
    let full : n.items ++ drop 91 q ≡ padded 62 n.items = ap (λ (z : List ℕ). n.items ++ z) rest ∙ ap (λ (k : ℕ). n.items ++ replicate k 0) (sym f) in
    ap (λ (z : List ℕ). set z 0 p.count) (e ∙ ap (λ (z : List ℕ). with_node z n) w)
    ∙ ap (λ (z : List ℕ). p.count ∷ n.count ∷ (z ++ (n.items ++ drop 91 q))) front
    ∙ ap (λ (z : List ℕ). p.count ∷ n.count ∷ (padded 64 u ++ z)) full
    ∙ ap (λ (k : ℕ). k ∷ n.count ∷ (padded 64 u ++ padded 62 n.items)) (sym c)
