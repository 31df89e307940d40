-- The line of a leaf has entries on both sides, and lies in the grid.
use Prim.Native.Nat.{ℕ, zero, ◌*◌, ◌<◌, ◌≤◌}
use mathlib.Core.Bool.{Bool, true, false, not, cond}
use mathlib.Core.Path.{◌≡◌, refl}
use mathlib.Core.List.{List, [], ◌∷◌}
use mathlib.Core.Logic.{◌⊎◌, inl, inr, ⊎_elim, ◌≢◌}
use lib.ListN.{length}
use lib.Dec.{leb}
use native.Mathlib.Omega.{arith}
use native.Mathlib.Decide.{ℕ_discrete}
use borrow.Author.Tests.{leb-true, leb-false, eq-eqb}
use Rattle.geometry.specs.declared.rect.Line.{Line}
use Rattle.geometry.specs.declared.rect.Line.TheVariants.{AtX, AtY}
use Rattle.geometry.specs.Cells.{on_grid}
use Rattle.geometry.specs.Clip.{below}
use Rattle.tree.specs.Lists.{All, Pairs, keep, total}
use Rattle.tree.specs.Nodes.{item_has}
use Rattle.tree.specs.Sound.{Apart}
use Rattle.plane.specs.Lines.{CellEntry, x_of, y_of, spread, mean_line, leaf_line}
use Rattle.plane.specs.Plane.{plane_space}
use Rattle.plane.proofs.Spread.{spread_more, mean_left, mean_right}
use Rattle.plane.proofs.Kept.{keep_one}
use Rattle.plane.proofs.Range.{InRange, between}

-- a spread that is positive
abbrev Spread : (CellEntry → ℕ) → List CellEntry → Type 0
Spread v es = total v es * total v es < length es * total (λ e. v e * v e) es

-- both sides of a line have entries
pub record Both (l : Line) (es : List CellEntry) : Type 0 where
  pub lefts : 1 ≤ length (keep (λ e. below l e.cell) es)
  pub rights : 1 ≤ length (keep (λ e. not (below l e.cell)) es)

module _ (fanout : ℕ) where
  -- two entries with different cells differ in x or in y
  differ : (a b : CellEntry) → Apart (plane_space fanout) zero a b → (x_of a ≢ x_of b) ⊎ (y_of a ≢ y_of b)
  unfolding item_has
  differ a b h = go (ℕ_discrete (x_of a) (x_of b)) (ℕ_discrete (y_of a) (y_of b))
    where
      go : Dec (x_of a ≡ x_of b) → Dec (y_of a ≡ y_of b) → (x_of a ≢ x_of b) ⊎ (y_of a ≢ y_of b)
      go (no n) q = inl n
      go (yes p) (no n) = inr n
      go (yes p) (yes q) = absurd (h b.cell (simp (eq-eqb _ _ p, eq-eqb _ _ q)) (simp (eq-eqb (x_of b) (x_of b) refl, eq-eqb (y_of b) (y_of b) refl)))

  spread_some : (es : List CellEntry) → 2 ≤ length es → Pairs (Apart (plane_space fanout) zero) es → Spread x_of es ⊎ Spread y_of es
  unfolding Pairs All
  spread_some [] n h = absurd (omega arith)
  spread_some (a ∷ []) n h = absurd (omega arith)
  spread_some (a ∷ b ∷ es) n h = ⊎_elim (λ d. inl (spread_more x_of a b es d)) (λ d. inr (spread_more y_of a b es d)) (differ a b h.0.0)

  -- the leaf's line has entries on both sides
  pub leaf_both : (es : List CellEntry) → 2 ≤ length es → Pairs (Apart (plane_space fanout) zero) es → Both (leaf_line es) es
  unfolding leaf_line below
  leaf_both es n h = go (leb (spread y_of es) (spread x_of es)) refl (spread_some es n h)
    where
      at_x : Spread x_of es → Both (AtX (mean_line x_of es)) es
      at_x s = record { lefts = mean_left x_of es (omega arith); rights = mean_right x_of es (omega arith) s }

      at_y : Spread y_of es → Both (AtY (mean_line y_of es)) es
      at_y s = record { lefts = mean_left y_of es (omega arith); rights = mean_right y_of es (omega arith) s }

      go : (b : Bool) → leb (spread y_of es) (spread x_of es) ≡ b → Spread x_of es ⊎ Spread y_of es → Both (cond b (AtX (mean_line x_of es)) (AtY (mean_line y_of es))) es
      go true e (inl s) = at_x s
      go true e (inr s) = let k = leb-true (spread y_of es) (spread x_of es) e in at_x (omega arith)
      go false e s = let k = leb-false (spread y_of es) (spread x_of es) e in at_y (omega arith)

  -- and is from 1 to 65535
  pub leaf_range : (es : List CellEntry) → 2 ≤ length es → Pairs (Apart (plane_space fanout) zero) es → All (λ e. on_grid e.cell ≡ true) es → InRange (leaf_line es)
  leaf_range es n h g =
      let b = leaf_both es n h in
      let e = keep_one (λ e. below (leaf_line es) e.cell) (λ e. on_grid e.cell ≡ true) es g b.lefts in
      let f = keep_one (λ e. not (below (leaf_line es) e.cell)) (λ e. on_grid e.cell ≡ true) es g b.rights in
      between (leaf_line es) e.0.cell f.0.cell e.1 f.1 f.2
