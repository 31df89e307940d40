-- The one or two branches that take the place of the node on the path, by whether it is split.
use Prim.Native.Nat.{ℕ}
use mathlib.Core.Path.{◌≡◌}
use mathlib.Core.List.{List, ◌∷◌, ◌++◌}
use Rattle.std.specs.Prelude.{Some, None}
use Rattle.geometry.specs.declared.rect.Line.{Line}
use Rattle.geometry.specs.declared.rect.Side.{Side}
use Rattle.geometry.specs.declared.rect.Side.TheVariants.{Left}
use Rattle.tree.specs.Space.{right}
use Rattle.plane.specs.Lines.{CellEntry}
use Rattle.split_line.specs.Sides.{side_of, sides_of}
use Rattle.path.specs.declared.level.Level.{Level}
use Rattle.path.specs.Path.{line_on}
use Rattle.tree_after.specs.Path.{half_under, cut_under}

-- the sides of a list with one put in front
pub front_is : (us ss : List Side) (s : Side) → us ≡ s ∷ ss → sides_of us ≡ side_of s ∷ sides_of ss
unfolding sides_of
front_is us ss s q = rw q

module _ (n : ℕ) (path : List Level) (m : List ℕ) (e : CellEntry) (ss : List Side) where
  pub cut_whole : line_on path n ≡ None → cut_under n path m e (sides_of ss) ≡ half_under n path m e (sides_of ss)
  unfolding cut_under half_under
  cut_whole z = rw z

  -- left of the line, then right of it
  pub cut_split : (l : Line) (us : List Side) → line_on path n ≡ Some l → us ≡ Left l ∷ ss
      → cut_under n path m e (sides_of ss) ≡ half_under n path m e (sides_of us) ++ half_under n path m e (right l ∷ sides_of ss)
  unfolding cut_under half_under side_of
  cut_split l us h u = rw (h, front_is us ss (Left l) u)
