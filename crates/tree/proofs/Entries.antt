-- An entry is told from all others by its cell and its tag.
use mathlib.Core.Bool.{Bool, true, ◌&&◌}
use mathlib.Core.Path.{◌≡◌, refl}
use lib.Dec.{eqb}
use borrow.Author.Tests.{eqb-true, eq-eqb}
use Rattle.polygons.proofs.Booleans.{split_and, both}
use Rattle.tree.specs.Space.{Space}
use Rattle.tree.specs.Nodes.{EntryOf}
use Rattle.tree.proofs.Laws.{Laws}

module _ (S : Space) where
  -- the test that the entry e alone passes
  abbrev pub is_entry : EntryOf S → EntryOf S → Bool
  is_entry e f = S.same f.cell e.cell && eqb f.tag e.tag

  pub is_entry_lem : Laws S → (e f : EntryOf S) → is_entry e f ≡ true → f ≡ e
  is_entry_lem W e f h =
      let k = split_and (S.same f.cell e.cell) (eqb f.tag e.tag) h in
      let x = W.same_is f.cell e.cell k.0 in let t = eqb-true f.tag e.tag k.1 in
      λ i. record { cell = x i; tag = t i }

  pub own_entry : Laws S → (e : EntryOf S) → is_entry e e ≡ true
  own_entry W e = both _ _ (W.same_self e.cell) (eq-eqb e.tag e.tag refl)
