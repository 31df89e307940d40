-- Document 01, 'Insertion', step 2, on memory: which branch of a routing node insertion goes to, and the polygon that
-- it gets.
use Rattle.std.specs.Prelude.{ℕ, suc, ◌+◌, ◌≤◌, ◌<◌, true, List, ◌∷◌, ◌++◌, ◌≡◌, length, take, drop, Result, Ok, Err}
use Rattle.std.proofs.Math.Option.{none, some}
use Rattle.geometry.specs.declared.rect.Cell.{Cell}
use Rattle.geometry.specs.declared.rect.Rect.{Rect}
use Rattle.geometry.specs.declared.polygon.Polygon.{Polygon}
use Rattle.geometry.specs.Numbers.{rects_of}
use Rattle.tree.specs.Lists.{All}
use Rattle.tree.specs.Nodes.{Item}
use Rattle.plane.specs.Fanout.{fanout, index_space}
use Rattle.memory.specs.Layout.{is_index_length}
use Rattle.memory.specs.Reading.{read_node}
use Rattle.choose_branch.specs.declared.choosing.Choice.{Choice}
use Rattle.geometry.specs.declared.cut.TooMany.{TooMany}

-- Part k of a memory of a right length is a routing node, and the polygons of its children are good ones.
pub record Routing (m : List ℕ) (k : ℕ) : Type 0 where
  pub right : is_index_length m ≡ true
  pub n : ℕ
  pub lo : ℕ
  pub from : lo ≤ k
  pub node : Item index_space (suc (suc n))
  pub reads : read_node fanout (suc n) m lo k ≡ some node
  pub fine : All (λ b. index_space.Fine b.poly) node.child

-- The branch at a place of the row of the node b is the one chosen, with the polygon q from now on; p is the node's
-- own polygon.
pub record ChosenBranch (n : ℕ) (b : Item index_space (suc (suc n))) (p : List Rect) (c : Cell) (place : ℕ)
    (q : List Rect) : Type 0 where
  pub old : Item index_space (suc n)
  pub below : place < length b.child
  pub row : b.child ≡ take place b.child ++ (old ∷ drop (place + 1) b.child)
  pub chosen : index_space.choose p b.child c
      ≡ some (record { before = take place b.child; old = old; grown = q; after = drop (place + 1) b.child })

-- The same of every reading of the node at part k.
pub record ChosenAt (m : List ℕ) (k : ℕ) (p : List Rect) (c : Cell) (place : ℕ) (q : Polygon) : Type 0 where
  pub few : q.count ≤ 16
  pub each : (n lo : ℕ) (b : Item index_space (suc (suc n))) → read_node fanout (suc n) m lo k ≡ some b
      → ChosenBranch n b p c place (rects_of q)

-- Refusal 7, of every reading: 'pieces over 256 after a cut by one rectangle or after the common parts, or the refined
-- polygon over 16'.
pub record NoneChosen (m : List ℕ) (k : ℕ) (p : List Rect) (c : Cell) : Type 0 where
  pub each : (n lo : ℕ) (b : Item index_space (suc (suc n))) → read_node fanout (suc n) m lo k ≡ some b
      → index_space.choose p b.child c ≡ none

-- 'go to the branch that has the cell. If none has it, choose ..': what was chosen, or refusal 7
abbrev pub ChoiceIs : List ℕ → ℕ → List Rect → Cell → Result Choice TooMany → Type 0
ChoiceIs m k p c (Ok r) = ChosenAt m k p c r.place r.polygon
ChoiceIs m k p c (Err e) = NoneChosen m k p c
