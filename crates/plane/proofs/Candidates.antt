-- The best of the candidate lines is the line of the definition.
use Prim.Native.Nat.{ℕ, ◌<◌, ◌≤◌}
use mathlib.Core.Bool.{true, false}
use mathlib.Core.Path.{◌≡◌, sym, ap, ◌∙◌, fun_ext}
use mathlib.Core.List.{List}
use mathlib.Core.Option.{some}
use lib.ListN.{length}
use native.Mathlib.Omega.{arith}
use native.Mathlib.Decide.{dec_le}
use Rattle.polygons.specs.Lists.{least}
use Rattle.polygons.proofs.Booleans.{not_both}
use Rattle.geometry.specs.declared.rect.Line.{Line}
use Rattle.tree.specs.Lists.{All, keep}
use Rattle.tree.proofs.Lists.{all_any, all_map}
use Rattle.tree.proofs.Counted.{none_passes}
use Rattle.plane.specs.Best.{best}
use Rattle.plane.specs.Lines.{CellEntry, holds_on, fits, on_both, lines, line_or, node_line}
use Rattle.plane.specs.Candidates.{Extent, extents, extent_on, line_number, key, candidates, best_candidate}
use Rattle.plane.proofs.Best.{best_some, least_low, scan_best}
use Rattle.plane.proofs.Kept.{keep_all, all_kept, keep_pairs}
use Rattle.plane.proofs.Range.{InRange}
use Rattle.plane.proofs.NodeLine.{Fits, fits_of, of_fits, GridGroups, in_lines, fits_range}
use Rattle.plane.proofs.Extents.{SomeEach, extents_fit, extents_both}
use Rattle.plane.proofs.Keys.{best_key, lines_rise, lines_range, number_bound, number_one}
use Rattle.plane.proofs.Lower.{lowered, lowered_number, lowered_fits, lowered_both, lowered_in}

module _ (fanout : ℕ) (es : List Extent) where
  -- a fitting line of the extents, lowered, is a fitting candidate
  pub fit_candidate : (P : Line → Type 0) (l : Line) → fits extent_on fanout es l ≡ true → All (λ k. fits extent_on fanout es k ≡ true → P k) (candidates es) → P (lowered es l)
  fit_candidate P l f h =
      let g : fits extent_on fanout es (lowered es l) ≡ true = lowered_fits es l fanout ∙ f in
      lowered_in (λ k. fits extent_on fanout es k ≡ true → P k) es l h (fits_of extent_on fanout es (lowered es l) g).lefts_some g

  -- where some line fits the extents, some candidate does
  some_candidate : (l : Line) → fits extent_on fanout es l ≡ true → 1 ≤ length (keep (fits extent_on fanout es) (candidates es))
  some_candidate l f = go (dec_le 1 (length (keep (fits extent_on fanout es) (candidates es))))
    where
      go : Dec (1 ≤ length (keep (fits extent_on fanout es) (candidates es))) → 1 ≤ length (keep (fits extent_on fanout es) (candidates es))
      go (yes n) = n
      go (no n) = absurd (fit_candidate (λ k. ⊥) l f
          (all_map (λ k. fits extent_on fanout es k ≡ false) _ (candidates es) (λ k d e. not_both (fits extent_on fanout es k) e d)
          (none_passes (fits extent_on fanout es) (candidates es) (omega arith))))

  -- some fitting candidate is as good as a fitting line
  least_candidate : (l : Line) → fits extent_on fanout es l ≡ true → least (key es) (keep (fits extent_on fanout es) (candidates es)) ≤ key es l
  least_candidate l f =
      let a = fit_candidate (λ k. least (key es) (keep (fits extent_on fanout es) (candidates es)) ≤ key es k) l f
      (all_kept (fits extent_on fanout es) (λ k. least (key es) (keep (fits extent_on fanout es) (candidates es)) ≤ key es k) (candidates es) (least_low (key es) (keep (fits extent_on fanout es) (candidates es)))) in
      let b = lowered_both es l in
      let c = lowered_number es l in
      omega arith

  -- where every line that fits is from 1 to 65535, and some line fits
  module _ (in_range : (l : Line) → fits extent_on fanout es l ≡ true → InRange l) (l₀ : Line) (fits₀ : fits extent_on fanout es l₀ ≡ true) where
    all_good : (ls : List Line) → All (λ l. (fits extent_on fanout es l ≡ true) × InRange l) (keep (fits extent_on fanout es) ls)
    all_good ls = keep_all (fits extent_on fanout es) _ ls (all_any _ ls (λ l e. (e, in_range l e)))

    some_line : 1 ≤ length (keep (fits extent_on fanout es) lines)
    some_line = go (dec_le 1 (length (keep (fits extent_on fanout es) lines)))
      where
        go : Dec (1 ≤ length (keep (fits extent_on fanout es) lines)) → 1 ≤ length (keep (fits extent_on fanout es) lines)
        go (yes n) = n
        go (no n) = absurd (not_both (fits extent_on fanout es l₀) fits₀
            (in_lines (λ k. fits extent_on fanout es k ≡ false) l₀ (in_range l₀ fits₀) (none_passes (fits extent_on fanout es) lines (omega arith))))

    -- the best line of the definition is at least as good as any fitting line
    least_line : (l : Line) → fits extent_on fanout es l ≡ true → least (key es) (keep (fits extent_on fanout es) lines) ≤ key es l
    least_line l f = in_lines (λ k. fits extent_on fanout es k ≡ true → least (key es) (keep (fits extent_on fanout es) lines) ≤ key es k) l (in_range l f)
        (all_kept (fits extent_on fanout es) _ lines (least_low (key es) (keep (fits extent_on fanout es) lines))) f

    -- the fitting line of least key is the fitting candidate of least key
    best_agree : best (key es) (keep (fits extent_on fanout es) lines) ≡ best (key es) (keep (fits extent_on fanout es) (candidates es))
    best_agree =
        let a = best_some (key es) (λ l. (fits extent_on fanout es l ≡ true) × InRange l) (keep (fits extent_on fanout es) lines) some_line (all_good lines) in
        let b = best_some (key es) (λ l. (fits extent_on fanout es l ≡ true) × InRange l) (keep (fits extent_on fanout es) (candidates es)) (some_candidate l₀ fits₀) (all_good (candidates es)) in
        let i = least_line b.it b.has.0 in let j = least_candidate a.it a.has.0 in
        let u = a.least_one in let v = b.least_one in
        let p = number_bound a.it a.has.1 in let q = number_bound b.it b.has.1 in
        let e : line_number a.it ≡ line_number b.it = omega arith in
        a.found ∙ ap some (number_one a.it b.it a.has.1 b.has.1 e) ∙ sym b.found

    lines_bound : All (λ l. line_number l < 131072) (keep (fits extent_on fanout es) lines)
    lines_bound = keep_all (fits extent_on fanout es) (λ l. line_number l < 131072) lines (all_map InRange (λ l. fits extent_on fanout es l ≡ true → line_number l < 131072) lines (λ l r e. number_bound l r) lines_range)

    -- the loop over the candidates finds the first line with fewest branches on both sides
    best_of_lines : best_candidate fanout es ≡ line_or (best (on_both extent_on es) (keep (fits extent_on fanout es) lines))
    unfolding best_candidate
    best_of_lines = ap line_or (scan_best (key es) (fits extent_on fanout es) (candidates es) ∙ sym best_agree
        ∙ sym (best_key (on_both extent_on es) line_number (keep (fits extent_on fanout es) lines) (keep_pairs (fits extent_on fanout es) (λ a b. line_number a < line_number b) lines lines_rise) lines_bound))

-- the line of a routing node is the best candidate of its branches' extents
pub candidate_line : (fanout : ℕ) (gs : List (List CellEntry)) → SomeEach gs → GridGroups gs → (l : Line) × Fits holds_on fanout gs l → best_candidate fanout (extents gs) ≡ node_line fanout gs
unfolding node_line
candidate_line fanout gs some_each grid some_Fits =
    let f : fits holds_on fanout gs ≡ fits extent_on fanout (extents gs) = fun_ext (λ l. extents_fit gs some_each fanout l) in
    let b : on_both holds_on gs ≡ on_both extent_on (extents gs) = fun_ext (λ l. extents_both gs some_each l) in
    rw (f, b) (best_of_lines fanout (extents gs)
    (λ l e. fits_range fanout gs grid l (fits_of holds_on fanout gs l (extents_fit gs some_each fanout l ∙ e)))
    some_Fits.0 (sym (extents_fit gs some_each fanout some_Fits.0) ∙ of_fits holds_on fanout gs some_Fits.0 some_Fits.1))
