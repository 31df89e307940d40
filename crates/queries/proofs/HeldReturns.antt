-- Whether the tree in a memory holds a cell: where the walk of the point query finds its entry.
use Prim.Native.Nat.{ℕ}
use mathlib.Core.Path.{◌≡◌, refl, sym, ap, ◌∙◌}
use mathlib.Core.Bool.{Bool, true, false, cond, ◌||◌}
use mathlib.Core.List.{List, [], ◌∷◌, head?}
use mathlib.Core.Option.{Option, none, some}
use Rattle.polygons.specs.Lists.{any}
use Rattle.geometry.specs.declared.rect.Cell.{Cell}
use Rattle.tree.specs.Lists.{keep}
use Rattle.tree.specs.Tree.{entries}
use Rattle.tree.specs.Query.{of_cell}
use Rattle.plane.specs.Lines.{CellEntry}
use Rattle.plane.specs.Fanout.{fanout, index_space}
use Rattle.memory.specs.Layout.{part, polygon_in}
use Rattle.memory.specs.Reading.{reading}
use Rattle.memory.specs.TreeIn.{TreeIn}
use Rattle.walks.specs.Walks.{has_test, visits_below, held_below}
use Rattle.walks.proofs.TreeWalk.{tree_entry_lem}
use Rattle.std.specs.Prelude as rust
use Rattle.answers.specs.declared.answer.PointFound.{PointFound}
use Rattle.answers.specs.Answers.{point_end}
use Rattle.queries.specs.Point.{found}
use Rattle.queries.specs.Held.{held_read}

-- whether there is something
abbrev is_some : {A : Type 0} → Option A → Bool
is_some none = false
is_some (some a) = true

any_found : {A : Type 0} (q : A → Bool) (l : List A) → any q l ≡ is_some (head? (keep q l))
unfolding any keep
any_found q [] = refl
any_found q (a ∷ l) = go (q a) (any_found q l)
  where
    go : (b : Bool) → any q l ≡ is_some (head? (keep q l)) → b || any q l ≡ is_some (head? (cond b (a ∷ keep q l) (keep q l)))
    go true ih = refl
    go false ih = ih

found_some : (es : List CellEntry) (w : ℕ) → rust.is_some (found es w).tag ≡ is_some (head? es)
unfolding found point_end
found_some [] w = refl
found_some (e ∷ es) w = refl

module _ (m : List ℕ) (level root : ℕ) (c : Cell) (v : TreeIn m level root) (b : Bool) (e : b ≡ has_test c (polygon_in (part m root))) where
  held_is : held_read c (reading fanout m) ≡ is_some (head? (cond (has_test c (polygon_in (part m root))) (held_below c level m 0 root) []))
  unfolding held_read
  held_is = rw v.reads (any_found (of_cell index_space c) (entries index_space (some v.tree)) ∙ ap is_some (sym (tree_entry_lem m level root v c)))

  pub held_outside : b ≡ false → b ≡ held_read c (reading fanout m)
  held_outside f = f ∙ sym (held_is ∙ rw (← e, f))

  pub held_found : (d : PointFound) (r : Bool) → b ≡ true → d ≡ found (held_below c level m 0 root) (visits_below (has_test c) level m 0 root)
      → r ≡ rust.is_some d.tag → r ≡ held_read c (reading fanout m)
  held_found d r f g h = h ∙ ap (λ x. rust.is_some x.tag) g ∙ found_some (held_below c level m 0 root) (visits_below (has_test c) level m 0 root) ∙ sym (held_is ∙ rw (← e, f))
