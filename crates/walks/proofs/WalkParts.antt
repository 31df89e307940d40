-- The tests of a node's polygon.
use mathlib.Core.Path.{◌≡◌, sym, ap, ◌∙◌}
use mathlib.Core.Bool.{Bool}
use mathlib.Core.List.{List}
use Rattle.polygons.specs.Lists.{any}
use Rattle.geometry.specs.declared.rect.Cell.{Cell}
use Rattle.geometry.specs.declared.rect.Rect.{Rect}
use Rattle.geometry.specs.declared.containment.Containment.{Containment}
use Rattle.geometry.specs.Common.{shares_with}
use Rattle.geometry.specs.Containment.{containment}
use Rattle.plane.specs.Windows.{meets}
use Rattle.plane.specs.Fanout.{fanout}
use Rattle.memory.proofs.SoundTested.{has_is}
use Rattle.walks.specs.Walks.{has_test, meets_test}

-- from the rectangles as they are lent
module _ (p l : List Rect) (l_is : l ≡ p) where
  pub polygon_has_lem : (t : Containment) (c : Cell) → t ≡ containment l c → t.has ≡ has_test c p
  unfolding has_test containment
  polygon_has_lem t c e = ap (λ x. x.has) (rw l_is at e) ∙ sym (has_is fanout p c)

  pub polygon_meets : (b : Bool) (w : Rect) → b ≡ any (shares_with w) l → b ≡ meets_test w p
  unfolding meets_test meets
  polygon_meets b w e = rw l_is at e
