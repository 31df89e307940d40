-- The loop that keeps only the least key finds the routing node's line.
use Prim.Native.Nat.{ℕ, ◌+◌, ◌*◌, ◌-◌, ◌%◌, ◌<◌, ◌≤◌, min}
use mathlib.Core.Bool.{Bool, true, false, cond, ◌&&◌}
use mathlib.Core.Path.{◌≡◌, refl, sym, ap, ◌∙◌, subst}
use mathlib.Core.List.{List, [], ◌∷◌}
use mathlib.Core.Option.{Option, none, some}
use lib.ListN.{length, length-map}
use lib.Dec.{ltb}
use native.Mathlib.Omega.{arith}
use borrow.Author.Tests.{lt-ltb, le-ltb, ltb-true, ltb-false}
use Rattle.geometry.specs.declared.rect.Line.{Line}
use Rattle.geometry.specs.declared.rect.Line.TheVariants.{AtX, AtY}
use Rattle.tree.specs.Lists.{All}
use Rattle.tree.specs.Space.{left, right}
use Rattle.tree.proofs.Lists.{all_any}
use Rattle.plane.specs.Best.{scan, better}
use Rattle.plane.specs.Lines.{CellEntry, holds_on, fits, on_both, line_or, node_line}
use Rattle.plane.specs.Candidates.{Extent, extent_of, extents, extent_on, line_number, key, candidates, best_candidate, tried, least_key, numbered_line, key_line}
use Rattle.plane.proofs.Kept.{keep_sides}
use Rattle.plane.proofs.Range.{InRange}
use Rattle.plane.proofs.NodeLine.{Fits, fits_of, GridGroups, fits_range, node_range}
use Rattle.plane.proofs.Extents.{SomeEach, extents_fit}
use Rattle.plane.proofs.Keys.{number_bound}
use Rattle.plane.proofs.Candidates.{candidate_line}

-- the key of what was found, k where nothing was
abbrev key_of : List Extent → ℕ → Option Line → ℕ
key_of es k none = k
key_of es k (some l) = key es l

module _ (fanout : ℕ) (es : List Extent) (k : ℕ) where
  key_tried : (o : Option Line) (l : Line) → (fits extent_on fanout es l ≡ true → key es l ≤ k)
      → key_of es k (cond (fits extent_on fanout es l) (better (fits extent_on fanout es) (key es) o l) o) ≡ tried fanout es (key_of es k o) l
  unfolding tried
  key_tried o l h = go (fits extent_on fanout es l) refl o
    where
      go : (b : Bool) → fits extent_on fanout es l ≡ b → (o : Option Line) → key_of es k (cond b (better (fits extent_on fanout es) (key es) o l) o) ≡ cond b (min (key_of es k o) (key es l)) (key_of es k o)
      go false e o = refl
      go true e none = let j = h e in omega arith
      go true e (some x) = side (ltb (key es l) (key es x)) refl
        where
          side : (t : Bool) → ltb (key es l) (key es x) ≡ t → key_of es k (cond t (some l) (some x)) ≡ min (key es x) (key es l)
          side true f = let j = ltb-true (key es l) (key es x) f in omega arith
          side false f = let j = ltb-false (key es l) (key es x) f in omega arith

  -- both loops agree
  scan_key : (ls : List Line) (o : Option Line) → All (λ l. fits extent_on fanout es l ≡ true → key es l ≤ k) ls → key_of es k (scan (fits extent_on fanout es) (key es) o ls) ≡ least_key fanout es (key_of es k o) ls
  unfolding scan least_key All
  scan_key [] o h = refl
  scan_key (l ∷ ls) o h = scan_key ls _ h.1 ∙ ap (λ (m : ℕ). least_key fanout es m ls) (key_tried o l h.0)

-- a line is read off its key
pub key_line_lem : (n : ℕ) (l : Line) → InRange l → key_line (n * 131072 + line_number l) ≡ l
unfolding key_line numbered_line
key_line_lem n (AtX l) r = let a = r.1 in let e : (n * 131072 + l) % 131072 ≡ l = omega arith in rw (e, lt-ltb l 65536 (omega arith))
key_line_lem n (AtY l) r =
    let a = r.1 in let e : (n * 131072 + (65536 + l)) % 131072 ≡ 65536 + l = omega arith in
    let m : 65536 + l - 65536 ≡ l = omega arith in
    ap numbered_line e ∙ rw (le-ltb (65536 + l) 65536 (omega arith)) (ap AtY m)

-- no more branches on both sides than branches
both_most : (es : List Extent) (l : Line) → on_both extent_on es l ≤ length es
both_most es l = omega (arith, keep_sides (λ e. extent_on (left l) e && extent_on (right l) e) es)

module _ (fanout : ℕ) (gs : List (List CellEntry)) (some_each : SomeEach gs) (grid : GridGroups gs) where
  -- the key of a fitting line
  pub key_bound : (l : Line) → fits extent_on fanout (extents gs) l ≡ true → key (extents gs) l < (length gs + 1) * 131072
  key_bound l f =
      let r = number_bound l (fits_range fanout gs grid l (fits_of holds_on fanout gs l (extents_fit gs some_each fanout l ∙ f))) in
      let b = both_most (extents gs) l in
      let n = length-map gs extent_of in
      omega arith

  -- from any number that no key of a fitting line passes, the loop comes to the key of the routing node's line
  pub least_key_line : (k : ℕ) → (length gs + 1) * 131072 ≤ k → (l : Line) × Fits holds_on fanout gs l → key_line (least_key fanout (extents gs) k (candidates (extents gs))) ≡ node_line fanout gs
  unfolding best_candidate
  least_key_line k h some_Fits = go (scan (fits extent_on fanout (extents gs)) (key (extents gs)) none (candidates (extents gs))) refl
    where
      is : line_or (scan (fits extent_on fanout (extents gs)) (key (extents gs)) none (candidates (extents gs))) ≡ node_line fanout gs
      is = candidate_line fanout gs some_each grid some_Fits

      all_below : All (λ l. fits extent_on fanout (extents gs) l ≡ true → key (extents gs) l ≤ k) (candidates (extents gs))
      all_below = all_any _ (candidates (extents gs)) (λ l f. let b = key_bound l f in omega arith)

      go : (o : Option Line) → scan (fits extent_on fanout (extents gs)) (key (extents gs)) none (candidates (extents gs)) ≡ o → key_line (least_key fanout (extents gs) k (candidates (extents gs))) ≡ node_line fanout gs
      go none e = let r : InRange (AtX 0) = subst InRange (sym (sym (ap line_or e) ∙ is)) (node_range fanout gs grid some_Fits) in let a = r.0 in absurd (omega arith)
      go (some m) e =
          let q : m ≡ node_line fanout gs = sym (ap line_or e) ∙ is in
          let r : InRange m = subst InRange (sym q) (node_range fanout gs grid some_Fits) in
          let j = scan_key fanout (extents gs) k (candidates (extents gs)) none all_below in
          ap key_line (sym j ∙ ap (key_of (extents gs) k) e) ∙ key_line_lem (on_both extent_on (extents gs) m) m r ∙ q
