-- The loop that unites the rectangles of a list.
use mathlib.Core.Path.{◌≡◌, sym, ◌∙◌}
use mathlib.Core.List.{List, [], ◌∷◌}
use Rattle.geometry.specs.declared.rect.Rect.{Rect}
use Rattle.geometry.specs.declared.rects.Rects.{Rects}
use Rattle.geometry.specs.Refine.{union}
use Rattle.geometry.specs.Rects.{rects_left}
use Rattle.area.specs.Bounds.{bounds_from, bounds_of}

-- All but the rest are united.
pub record Uniting (all rest : List Rect) (b : Rect) : Type 0 where
  pub total : bounds_of all ≡ bounds_from b rest

module _ (all : List Rect) where
  pub unite_start : (b : Rect) (more it : Rects) → it ≡ more → all ≡ b ∷ rects_left more → Uniting all (rects_left it) b
  unfolding bounds_of
  unite_start b more it q e = rw q (record { total = rw e })

  module _ (rest : List Rect) (b : Rect) (v : Uniting all rest b) where
    pub unite_again : (s : Rect) (rest' : List Rect) → rest ≡ s ∷ rest' → (b' : Rect) → b' ≡ union b s → Uniting all rest' b'
    unfolding bounds_from
    unite_again s rest' e b' f = record { total = v.total ∙ rw (e, f) }

    pub unite_end : rest ≡ [] → b ≡ bounds_of all
    unfolding bounds_from
    unite_end e = sym (v.total ∙ rw e)
