-- What a chain over the rectangles of numbers answers, where its closure computes a test.
use Rattle.std.proofs.Common.{◌≡◌, ℕ, Bool, Option, refl, ◌∙◌}
use denote.Param.Members.{Mut}
use Rattle.std.specs.Fn.{Called}
use Rattle.std.specs.Iterator.{YieldsFirst, ChecksAny, ChecksAll, FindsPosition}
use Rattle.std.proofs.lemmas.Iterator.{YieldsList}
use Rattle.std.proofs.lemmas.Iterator.Consumers.{YieldsList-from_first}
use Rattle.std.proofs.lemmas.Iterator.Search.{any_from_yields_List, all_from_yields_List, position_from_yields_List}
use Rattle.std.specs.List.{list_all}
use Rattle.polygons.specs.Lists.{any}
use Rattle.geometry.specs.declared.rect.Rect.{Rect}
use Rattle.geometry.specs.declared.rects.Rects.{Rects}
use Rattle.geometry.specs.declared.rect.Cell.{Cell}
use Rattle.geometry.specs.Cells.{has_cell}
use Rattle.geometry.specs.Rects.{rects_left}
use Rattle.geometry.proofs.ContainmentLoop.{place_of}
use Rattle.geometry.proofs.RectsLaws.{list_any-any}

-- the closure computes the test, and stays as it is
abbrev pub Tests : {F : Type 0} → Mut F (Rect × Unit {0}) Bool → (Rect → Bool) → F → Type 0
Tests {F} g test f = (x : Rect) (b : Bool) (q : F) → Called g f (x, tt) b q → (q ≡ f) × (b ≡ test x)

gives_left : (s : Rects) → YieldsList (YieldsFirst rects_left) (λ x. x) s (rects_left s)
gives_left s = YieldsList-from_first (λ x. x) rects_left _ refl

module _ {F : Type 0} {g : Mut F (Rect × Unit {0}) Bool} (test : Rect → Bool) (s u : Rects) (f : F) (r : Bool) where
  pub any_rects : ChecksAny (YieldsFirst rects_left) g s f r u → Tests g test f → r ≡ any test (rects_left s)
  any_rects d k = any_from_yields_List test u f r d (gives_left s) k ∙ list_any-any test _

  pub all_rects : ChecksAll (YieldsFirst rects_left) g s f r u → Tests g test f → r ≡ list_all test (rects_left s)
  all_rects d k = all_from_yields_List test u f r d (gives_left s) k

module _ {F : Type 0} {g : Mut F (Rect × Unit {0}) Bool} (c : Cell) (s u : Rects) (f : F) (r : Option ℕ) where
  -- the place of the first rectangle that has the cell
  pub place_in_rects : FindsPosition (YieldsFirst rects_left) g s f r u → Tests g (λ x. has_cell x c) f → r ≡ place_of (rects_left s) c
  place_in_rects d k = position_from_yields_List (λ x. has_cell x c) u f r d (gives_left s) k
