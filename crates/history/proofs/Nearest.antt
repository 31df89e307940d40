-- The answer of an accepted nearest query, on any memory.
use Prim.Native.Nat.{ℕ, ◌≤◌}
use mathlib.Core.Bool.{Bool, true, false, cond, false≢true}
use mathlib.Core.List.{List, [], ◌∷◌}
use mathlib.Core.Option.{Option, none, some}
use mathlib.Core.Path.{◌≡◌, refl, ◌∙◌}
use native.Mathlib.Omega.{arith}
use lib.ListN.{length}
use Rattle.geometry.specs.declared.rect.Cell.{Cell}
use Rattle.geometry.specs.Cells.{on_grid}
use Rattle.tree.specs.Lists.{Bag}
use Rattle.tree.specs.Tree.{entries}
use Rattle.tree.specs.Nearest.{nearest_of, nearest, walk}
use Rattle.tree.proofs.NearestLeast.{nearest_is, nearest_some}
use Rattle.tree.proofs.NearestSame.{nearest_same}
use Rattle.tree.proofs.NearestWalk.{walk_nearest, walk_few}
use Rattle.plane.specs.Lines.{CellEntry}
use Rattle.plane.specs.Fanout.{fanout, index_space, index_root, PlaneIndex}
use Rattle.plane.proofs.Rects.{plane_space_laws}
use Rattle.memory.specs.Layout.{is_index_length}
use Rattle.memory.specs.Reading.{reading}
use Rattle.answers.specs.Answers.{nearest_end, nearest_read, nearest_answer}
use Rattle.answers.specs.Numbers.{nearest_reply}
use Rattle.std.specs.Prelude.{Err}
use Rattle.answers.specs.declared.answer.Refusal.TheVariants as R
use Rattle.history.specs.Calls.{accepted}
use Rattle.history.specs.Claim.{NearestExact}
use Rattle.history.proofs.Visits.{reads_sound, reads_right, index_held}

-- a nearest query of a cell on the grid is accepted on every memory that holds an index with an entry
pub nearest_accepts : (m : List ℕ) (c : Cell) (i : PlaneIndex) → reading fanout m ≡ some i → 1 ≤ length (entries index_space i)
    → on_grid c ≡ true → accepted (nearest_reply (nearest_answer m c)) ≡ true
unfolding nearest_answer nearest_read nearest_end
nearest_accepts m c i e n g = rw (reads_right m i e, g, e) (go (entries index_space i) n)
  where
    go : (l : List CellEntry) → 1 ≤ length l
        → accepted (nearest_reply (nearest_end c (nearest_of index_space c none l) (walk index_space c i).entered)) ≡ true
    go [] n = absurd (omega arith)
    go (f ∷ l) n = rw (nearest_some index_space c f l).1

-- An accepted one on a memory that holds the index i is exact for r, if as many entries of i as of r pass any test.
pub tells_nearest : (m : List ℕ) (c : Cell) (i : PlaneIndex) (r : List CellEntry) → reading fanout m ≡ some i
    → Bag (entries index_space i) r
    → accepted (nearest_reply (nearest_answer m c)) ≡ true → NearestExact m c r (nearest_reply (nearest_answer m c))
unfolding nearest_answer nearest_read nearest_end
tells_nearest m c i r e same f =
    rw e (go (is_index_length m) (on_grid c) (nearest index_space c i) refl (rw e at f))
  where
    go : (a b : Bool) (o : Option CellEntry) → nearest index_space c i ≡ o
        → accepted (nearest_reply (cond a (cond b (nearest_end c o (walk index_space c i).entered) (Err R.Invalid)) (Err R.WrongLength))) ≡ true
        → NearestExact m c r (nearest_reply (cond a (cond b (nearest_end c o (walk index_space c i).entered) (Err R.Invalid)) (Err R.WrongLength)))
    go false b o h f = absurd (false≢true f)
    go true false o h f = absurd (false≢true f)
    go true true none h f = absurd (false≢true f)
    go true true (some n) h f = record {
      entry = n;
      visits = (walk index_space c i).entered;
      reply = refl;
      nearest = nearest_same index_space (plane_space_laws fanout) c (entries index_space i) r same n (nearest_is index_space c (entries index_space i) n h);
      index = i;
      reads = e;
      met = walk_nearest index_space (plane_space_laws fanout) c index_root i (reads_sound m i e) ∙ h;
      exact = refl;
      few = walk_few index_space c i;
    }

-- An accepted one on any memory: that memory holds an index, and its answer is exact for the entries of that index.
pub nearest_on_index : (m : List ℕ) (c : Cell) → accepted (nearest_reply (nearest_answer m c)) ≡ true
    → (i : PlaneIndex) × (reading fanout m ≡ some i) × NearestExact m c (entries index_space i) (nearest_reply (nearest_answer m c))
unfolding nearest_answer nearest_read
nearest_on_index m c f =
    let h = index_held nearest_reply (nearest_read c) (Err R.Invalid) (Err R.WrongLength)
    (is_index_length m) (on_grid c) (reading fanout m) refl refl refl f in
    (h.0, h.1, tells_nearest m c h.0 (entries index_space h.0) h.1 (λ q. refl) f)
