-- Visits of an accepted point query, on any memory.
use Prim.Native.Nat.{ℕ}
use mathlib.Core.Bool.{Bool, true, false, cond, false≢true}
use mathlib.Core.List.{List}
use mathlib.Core.Option.{Option, none, some}
use mathlib.Core.Path.{◌≡◌, refl, sym, ◌∙◌}
use Rattle.geometry.specs.declared.rect.Cell.{Cell}
use Rattle.geometry.specs.Cells.{on_grid}
use Rattle.tree.specs.Tree.{Sound}
use Rattle.tree.specs.Query.{entry_at, visits}
use Rattle.tree.proofs.Visits.{visits_height}
use Rattle.plane.specs.Lines.{CellEntry}
use Rattle.plane.specs.Fanout.{fanout, index_space, index_root, PlaneIndex}
use Rattle.plane.proofs.Rects.{plane_space_laws}
use Rattle.memory.specs.Layout.{is_index_length}
use Rattle.memory.specs.Reading.{reading}
use Rattle.memory.proofs.ReadingLaws.{read_empty, read_sound}
use Rattle.answers.specs.Answers.{point_end, point_read, point_answer}
use Rattle.answers.specs.declared.reply.Reply.{Reply}
use Rattle.answers.specs.Numbers.{point_reply}
use Rattle.std.specs.Prelude.{Ok, Err}
use Rattle.answers.specs.declared.answer.Refusal.TheVariants as R
use Rattle.history.specs.Calls.{accepted}
use Rattle.history.specs.Claim.{visits_of, VisitsExact}

-- an index that a memory reads as is sound
pub reads_sound : (m : List ℕ) (i : PlaneIndex) → reading fanout m ≡ some i → Sound index_space index_root i
reads_sound m none e = tt
reads_sound m (some t) e = (read_sound fanout m t e).sound

-- and its memory has a right length
pub reads_right : (m : List ℕ) (i : PlaneIndex) → reading fanout m ≡ some i → is_index_length m ≡ true
reads_right m none e = (read_empty fanout m e).0
reads_right m (some t) e = (read_sound fanout m t e).right

-- A call that tests a length and its argument before it reads the memory, and that refuses where one fails or nothing reads:
-- where it is accepted, the memory holds an index.
pub index_held : {A : Type 0} (reply : A → Reply) (read : Option PlaneIndex → A) (bad wrong : A) (a b : Bool) (o : Option PlaneIndex)
    → accepted (reply wrong) ≡ false → accepted (reply bad) ≡ false → accepted (reply (read none)) ≡ false
    → accepted (reply (cond a (cond b (read o) bad) wrong)) ≡ true → (i : PlaneIndex) × (o ≡ some i)
index_held reply read bad wrong false b o p q r f = absurd (false≢true (sym p ∙ f))
index_held reply read bad wrong true false o p q r f = absurd (false≢true (sym q ∙ f))
index_held reply read bad wrong true true none p q r f = absurd (false≢true (sym r ∙ f))
index_held reply read bad wrong true true (some i) p q r f = (i, refl)

-- the visits reported of a point query's end, which accepts
visits_end : (o : Option CellEntry) (v : ℕ) → visits_of (point_reply (Ok (point_end o v))) ≡ v
unfolding point_end
visits_end none v = refl
visits_end (some e) v = refl

end_accepts : (o : Option CellEntry) (v : ℕ) → accepted (point_reply (Ok (point_end o v))) ≡ true
unfolding point_end
end_accepts none v = refl
end_accepts (some e) v = refl

-- a point query of a cell on the grid is accepted on every memory that holds an index
pub point_accepts : (m : List ℕ) (c : Cell) (i : PlaneIndex) → reading fanout m ≡ some i → on_grid c ≡ true → accepted (point_reply (point_answer m c)) ≡ true
unfolding point_answer point_read
point_accepts m c i e g = rw (reads_right m i e, g, e) (end_accepts (entry_at index_space c i) (visits index_space c i))

-- an accepted point query on any memory: that memory holds an index, and its visits are exact and at most the height
pub point_visits : (m : List ℕ) (c : Cell) → accepted (point_reply (point_answer m c)) ≡ true → VisitsExact m c (visits_of (point_reply (point_answer m c)))
unfolding point_answer point_read
point_visits m c f = go (is_index_length m) (on_grid c) (reading fanout m) refl f
  where
    go : (a b : Bool) (o : Option PlaneIndex) → reading fanout m ≡ o → accepted (point_reply (cond a (cond b (point_read c o) (Err R.Invalid)) (Err R.WrongLength))) ≡ true
        → VisitsExact m c (visits_of (point_reply (cond a (cond b (point_read c o) (Err R.Invalid)) (Err R.WrongLength))))
    go false b o e f = absurd (false≢true f)
    go true false o e f = absurd (false≢true f)
    go true true none e f = absurd (false≢true f)
    go true true (some i) e f =
        let v = visits_end (entry_at index_space c i) (visits index_space c i) in
        record {
          index = i;
          reads = e;
          exact = v;
          few = rw v (visits_height index_space (plane_space_laws fanout) index_root i (reads_sound m i e) c);
        }
