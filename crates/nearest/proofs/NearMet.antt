-- What was met, in the code's form and in the definition's: one gives the other back; one more node; the test whether a child is entered.
use Prim.Native.Nat.{ℕ}
use mathlib.Core.Bool.{Bool}
use mathlib.Core.List.{List}
use mathlib.Core.Option.{Option, none, some}
use mathlib.Core.Path.{◌≡◌, refl, sym, ap, ◌∙◌, subst}
use native.Mathlib.Numerals.{add-one}
use Rattle.std.specs.Prelude.{Some, None}
use Rattle.std.specs.Prelude as Code
use Rattle.polygons.specs.Rules.{least_distance}
use Rattle.geometry.specs.declared.rect.Cell.{Cell}
use Rattle.geometry.specs.declared.rect.Rect.{Rect}
use Rattle.distance.specs.Distance.{squared, rect_distance}
use Rattle.tree.specs.Nearest.{enters, enter}
use Rattle.plane.specs.Lines.{CellEntry}
use Rattle.plane.specs.Fanout.{index_space}
use Rattle.nearest.specs.declared.near.Candidate.{Candidate}
use Rattle.nearest.specs.declared.near.Near.{Near}
use Rattle.nearest.specs.Near.{MetBy, candidate, candidate_entry, near_by, best_of, GoodNear, near_of, met_of, with_node, enters_near}

pub candidate_back : (c : Cell) (o : Option CellEntry) → candidate_entry (candidate c o) ≡ o
candidate_back c none = refl
candidate_back c (some e) = refl

pub good_near : (c : Cell) (r : Near) (o : Option CellEntry) (v : ℕ) → r ≡ near_by c o v → GoodNear c r
good_near c r none v e = rw e tt
good_near c r (some f) v e = rw e refl

-- good, it is the code's form of its entry and its visits
pub near_is : (c : Cell) (r : Near) → GoodNear c r → r ≡ near_by c (best_of r) r.visits
near_is c r good = ap (λ (o : Code.Option Candidate). record { best = o; visits = r.visits }) (go r.best good)
  where
    go : (o : Code.Option Candidate) → Code.IfSome o (λ k. k.distance ≡ squared c k.entry.cell) → o ≡ candidate c (candidate_entry o)
    go None good = refl
    go (Some k) good = ap (λ (d : ℕ). Some (record { distance = d; entry = k.entry })) good

pub met_near : (c : Cell) (r : Near) (w : MetBy c) → r ≡ near_of c w → met_of c r ≡ w
met_near c r w q = rw (q, candidate_back)

-- one more node
pub met_entered : (c : Cell) (met r : Near) → r ≡ with_node met → met_of c r ≡ enter index_space c (met_of c met)
met_entered c met r e = rw (e, add-one)

pub good_entered : (c : Cell) (met r : Near) → GoodNear c met → r ≡ with_node met → GoodNear c r
good_entered c met r good e = subst (GoodNear c) (sym e) good

-- the code's test is the walk's
pub enters_is : (c : Cell) (p : List Rect) (r : Near) (d : ℕ) (b : Bool) → GoodNear c r → d ≡ least_distance rect_distance c p
    → b ≡ enters_near r.best d → enters index_space c p (best_of r) ≡ b
unfolding enters enters_near
enters_is c p r d b good q e = go r.best good ∙ sym e
  where
    go : (o : Code.Option Candidate) → Code.IfSome o (λ k. k.distance ≡ squared c k.entry.cell) → enters index_space c p (candidate_entry o) ≡ enters_near o d
    go None good = refl
    go (Some k) good = rw (q, good)
