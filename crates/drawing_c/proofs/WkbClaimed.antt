-- The claim about the shipped call, from its own contract and what it returned and stored: accepted, a reader finds the
-- polygon; refused, everything is as it was.
use mathlib.Core.Path.{◌≡◌, refl, sym, ap, subst, ◌∙◌}
use mathlib.Core.Bool.{Bool, true, false}
use mathlib.Core.List.{List, ◌++◌}
use Prim.Native.Nat.{ℕ, ◌/◌, ◌≤◌}
use native.Mathlib.Omega.{arith}
use borrow.Author.Tests.{leb-true}
use contract.Lifetimes.{Lfts}
use denote.Triple.Clauses.{AtExit}
use borrow.Fn.Kinds.{ended_of}
use borrow.Fn.World.{ArgsD, ResD}
use lib.Dec.{leb}
use lib.ListN.{length, get_or, drop, length-append, length-drop}
use lib.Seq.{drop_at}
use Rattle.polygons.specs.Limits.{most_of_polygon}
use Rattle.geometry.specs.declared.rect.Rect.{Rect}
use Rattle.geometry.specs.Cells.{no_rect, valid}
use Rattle.geometry.specs.Numbers.{rect_at}
use Rattle.geometry.proofs.CellLaws.{valid_at}
use Rattle.geometry.proofs.NumberLaws.{length_rects, rects_at}
use Rattle.wkb.specs.Collection.{collection_bytes, wkb_length}
use Rattle.wkb.proofs.CollectionLaws.{length_collection}
use Rattle.wkb.proofs.ReadLaws.{collection_read}
use Rattle.wkb.proofs.RingLaws.{ring_runs}
use Rattle.std.specs.Prelude.{Result, Ok, Err}
use Rattle.drawing.specs.declared.answer.Refusal.{Refusal}
use Rattle.drawing.specs.Arguments.{given, is_list}
use Rattle.drawing.specs.Wkb.{wkb_of, wkb_answer, output_of}
use Rattle.drawing_c.specs.Exports.{number, reported, WkbExported}
use Rattle.drawing_c.specs.WkbClaim.{WkbClaim}
use Rattle.drawing.proofs.Returns.{list_few, list_valid}
use Rattle.drawing_c.specs.contracts.exports.lintzoger_wkb as wkb_fn
use Rattle.drawing_c.proofs.exports.lintzoger_wkb.Reads as wkb
use Rattle.drawing_c.proofs.exports.lintzoger_wkb.Kinds as wkb_kinds

-- the claim where both tests passed
module _ (p out : List ℕ) (v : is_list most_of_polygon p ≡ true) (room : wkb_length (length p / 4) ≤ length out) where
  claimed : WkbClaim p out (collection_bytes (given p) ++ drop (wkb_length (length p / 4)) out)
      (wkb_length (length p / 4))
  claimed =
      let ok = list_valid most_of_polygon p v in
      let few = list_few most_of_polygon p true (sym v) refl in
      let n = length_rects p (length p / 4) in
      let bytes : List ℕ = collection_bytes (given p) in
      let rest : List ℕ = drop (wkb_length (length p / 4)) out in
      let long : length bytes ≡ wkb_length (length p / 4) = length_collection (given p) ∙ rw n in
      let behind : length rest ≡ _ = length-drop (wkb_length (length p / 4)) out in
      record {
        length_is = refl;
        read = collection_read (given p) ok (omega arith) rest;
        runs = λ i h.
            let q : valid (get_or (given p) i no_rect) ≡ true = valid_at (given p) i ok (omega arith) in
            ring_runs (rect_at p i) (subst (λ (r : Rect). valid r ≡ true) (rects_at p (length p / 4) i h) q);
        beyond = drop_at bytes rest _ long;
        same_length = length-append bytes rest ∙ omega arith;
      }

-- by the answer's cases
by_case : (v r : Bool) (p out : List ℕ) (told : ℕ) (a : Result ℕ Refusal) → v ≡ is_list most_of_polygon p
    → r ≡ leb (wkb_length (length p / 4)) (length out) → a ≡ wkb_of v r (wkb_length (length p / 4)) → number a ≡ 0
    → WkbClaim p out (output_of a (given p) out) (reported a told)
unfolding wkb_of
by_case true true p out told a e d f z = rw f (claimed p out (sym e) (leb-true _ _ (sym d)))
by_case true false p out told a e d f z = absurd (omega (arith, ap number f))
by_case false r p out told a e d f z = absurd (omega (arith, ap number f))

-- A call of `lintzoger_wkb` that has returned: its lifetimes, its arguments (the polygon, the output, the place for the
-- length), its number and what it was lent when it returned, with the function's own contract of these (`Post`), quoted
-- and not restated.
pub record Call : Type 0 where
  pub κs : Lfts 3
  pub args : ArgsD wkb_fn.signature κs
  pub out : ResD wkb_fn.signature κs
  pub exits : AtExit (ended_of 3 wkb_kinds.ps wkb_kinds.r) κs
  pub meets : wkb.Post κs args out exits

-- what it was handed, and what it left
abbrev pub polygon : Call → List ℕ
polygon s = s.args.0.now

abbrev pub output : Call → List ℕ
output s = s.args.1.0.now

abbrev pub output_left : Call → List ℕ
output_left s = s.exits.1.0.now

abbrev pub length_before : Call → ℕ
length_before s = s.args.1.1.0.now

abbrev pub length_stored : Call → ℕ
length_stored s = s.exits.1.1.0.now

-- by what the call promises
accepted_left : (p out out' : List ℕ) (before n told : ℕ) → WkbExported p out before n out' told → n ≡ 0
    → WkbClaim p out out' told
accepted_left p out out' before n told w z =
    rw (w.output, w.length_told)
    (by_case (is_list most_of_polygon p) (leb (wkb_length (length p / 4)) (length out)) p out before (wkb_answer p out)
    refl refl refl (sym w.refusal ∙ z))

-- accepted: a reader finds the polygon
pub wkb_claim : (s : Call) → s.out ≡ 0 → WkbClaim (polygon s) (output s) (output_left s) (length_stored s)
wkb_claim s z = accepted_left (polygon s) (output s) (output_left s) (length_before s) s.out (length_stored s) s.meets z

-- by the answer's cases
refused_left : (a : Result ℕ Refusal) (rs : List Rect) (out out' : List ℕ) (told n told' : ℕ) → (n ≡ 0 → ⊥) → n ≡ number a
    → out' ≡ output_of a rs out → told' ≡ reported a told → (out' ≡ out) × (told' ≡ told)
refused_left (Ok k) rs out out' told n told' z e o l = absurd (z e)
refused_left (Err r) rs out out' told n told' z e o l = (o, l)

-- refused: 'nothing written', and the stored length is as it was
pub wkb_refused : (s : Call) → (s.out ≡ 0 → ⊥) → (output_left s ≡ output s) × (length_stored s ≡ length_before s)
wkb_refused s z =
    let w : WkbExported (polygon s) (output s) (length_before s) s.out (output_left s) (length_stored s) = s.meets in
    refused_left (wkb_answer (polygon s) (output s)) (given (polygon s)) _ _ _ _ _ z w.refusal w.output w.length_told
