-- Document 01, 'Insertion', step 2: the branch that is gone to, and its polygon grown.
-- docs/RULES.md 4.3 to 4.9, 4.26
use Rattle.std.specs.Prelude.{ℕ, Bool, cond, eqb}
use mathlib.Core.List.{List, [], ◌∷◌, ◌++◌, map, flat_map}
use Rattle.std.proofs.Math.Option.{Option, none, some, bind}
use Rattle.polygons.specs.Rules.{cut_each, commons, removed_by}
use Rattle.polygons.specs.Limits.{at_most, most_of_polygon, most_pieces}
use Rattle.polygons.specs.Lists.{any, least}
use Rattle.tree.specs.Search.{Focus, first, or_else}
use Rattle.tree.specs.Space.{Branch, Chosen}
use Rattle.tree.specs.Boxes.{Boxes, Poly, any_has, extra}

module _ (B : Boxes) where
  -- The polygon with one rectangle k grown to the cell: "Grow it; cut the grown one ..; replace each piece ..; put the
  -- pieces where the chosen rectangle stood; refine." p is the parent's polygon. Nothing where there are pieces over
  -- 256, or "the refined polygon over 16".
  unfoldable pub grown_poly : Poly B → Poly B → Focus B.Box → B.Cell → Option (Poly B)
  grown_poly p siblings k c =
      bind (cut_each B.cut (B.grow k.at c ∷ []) siblings) λ pieces.
      bind (at_most most_pieces (commons B.common pieces p)) λ inner.
      at_most most_of_polygon (B.refine (k.before ++ (inner ++ k.after)))

  -- The rectangles of the branches, in order.
  abbrev pub all_boxes : {A : Type 0} → List (Branch (Poly B) A) → Poly B
  all_boxes bs = flat_map (λ b. b.poly) bs

  -- The branch in focus, with the polygon q from now on.
  abbrev pub chosen : {A : Type 0} → Focus (Branch (Poly B) A) → Poly B → Chosen (Poly B) A
  chosen f q = record { before = f.before; old = f.at; grown = q; after = f.after }

  -- A branch that has the cell stays as it is.
  abbrev pub whole : {A : Type 0} → Option (Focus (Branch (Poly B) A)) → Option (Chosen (Poly B) A)
  whole none = none
  whole (some f) = some (chosen f f.at.poly)

  -- The extra areas of the branches' rectangles, in order.
  abbrev pub extras : {A : Type 0} → List (Branch (Poly B) A) → B.Cell → List ℕ
  extras bs c = flat_map (λ b. map (λ r. extra B b.poly r c) b.poly) bs

  -- The polygon's rectangle has this extra area.
  abbrev pub has_extra : B.Cell → ℕ → Poly B → B.Box → Bool
  has_extra c m q r = eqb (extra B q r c) m

  -- The rectangle that grows: its branch, and its place in that branch's polygon.
  pub record Growth (A : Type 0) : Type 0 where
    pub branch : Focus (Branch (Poly B) A)
    pub rect : Focus B.Box

  -- The rectangles of its siblings.
  abbrev pub sibling_boxes : {A : Type 0} → Growth A → Poly B
  sibling_boxes g = all_boxes (g.branch.before ++ g.branch.after)

  -- "choose the rectangle of least extra area, first branch then first rectangle on ties"
  abbrev pub least_growth : {A : Type 0} → List (Branch (Poly B) A) → B.Cell → Option (Growth A)
  least_growth bs c =
      let m = least (λ x. x) (extras bs c) in
      bind (first (λ b. any (has_extra c m b.poly) b.poly) bs) λ f.
      bind (first (has_extra c m f.at.poly) f.at.poly) λ k.
      some (record { branch = f; rect = k })

  -- and grow it
  abbrev pub growing : {A : Type 0} → Poly B → List (Branch (Poly B) A) → B.Cell → Option (Chosen (Poly B) A)
  growing p bs c =
      bind (least_growth bs c) λ g.
      bind (grown_poly p (sibling_boxes g) g.rect c) λ q.
      some (chosen g.branch q)

  -- "At a routing node, go to the branch that has the cell. If none has it, choose .."
  unfoldable pub choose : {A : Type 0} → Poly B → List (Branch (Poly B) A) → B.Cell → Option (Chosen (Poly B) A)
  choose p bs c = or_else (whole (first (λ b. any_has B b.poly c) bs)) (growing p bs c)

  -- A.6: "the cells of each grown rectangle that some sibling has"
  abbrev pub removed_from : {A : Type 0} → Option (Growth A) → B.Cell → ℕ
  removed_from none c = 0
  removed_from (some g) c = removed_by B.count B.has (B.grow g.rect.at c ∷ []) (sibling_boxes g)

  -- The cells that siblings remove at a routing node, "and 0 where nothing grew": where a branch has the cell
  unfoldable pub removed : {A : Type 0} → List (Branch (Poly B) A) → B.Cell → ℕ
  removed bs c = cond (any (λ b. any_has B b.poly c) bs) 0 (removed_from (least_growth bs c) c)
