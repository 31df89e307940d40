-- On a memory that holds an index, what the contracts of the functions say is what document 01 defines of that index.
use Prim.Native.Nat.{ℕ, ◌+◌, ◌*◌, ◌≤◌}
use mathlib.Core.Bool.{Bool, true, false, cond}
use mathlib.Core.List.{List, [], ◌∷◌}
use mathlib.Core.Option.{Option, none, some}
use mathlib.Core.Path.{◌≡◌, refl, ap, ◌∙◌}
use lib.Dec.{leb, eqb}
use lib.ListN.{length}
use Rattle.geometry.specs.declared.rect.Cell.{Cell}
use Rattle.geometry.specs.declared.rect.Rect.{Rect}
use Rattle.geometry.specs.Cells.{on_grid, valid}
use Rattle.tree.specs.Tree.{Tree, node_count}
use Rattle.tree.specs.Insert.{refused, accepted, insert_tree, limited}
use Rattle.tree.specs.Remove.{remove}
use Rattle.tree.specs.Query.{holds, entry_at, visits, window_visits}
use Rattle.tree.specs.Nearest.{nearest, walk}
use Rattle.tree.specs.Emptiness.{is_empty, empty_visits}
use Rattle.tree.specs.Calls.{insert_call, remove_call, clear_call, point_call, window_call, nearest_call, empty_call, insertion, removal, outcome_answer, inserted, reports, answer, point_answer as point_found, nearest_end as nearest_found}
use Rattle.plane.specs.Lines.{CellEntry}
use Rattle.plane.specs.Fanout.{fanout, index_space, index_root, index_window, PlaneIndex}
use Rattle.memory.specs.Layout.{parts_of, is_index_length}
use Rattle.memory.specs.Reading.{reading}
use Rattle.memory.proofs.ReadingLaws.{parts_are, is_index_length_lem}
use Rattle.answers.specs.Listing.{list_width}
use Rattle.answers.specs.Answers.{cells_removed, insert_end, insert_read, insert_answer, remove_end, remove_read, remove_answer, clear_answer, point_end, point_read, point_answer, matches_in, window_read, window_answer, nearest_end, nearest_read, nearest_answer, empty_read, empty_answer}
use Rattle.answers.specs.Numbers.{accepts, insert_reply, remove_reply, clear_reply, point_reply, window_reply, nearest_reply, empty_reply}
use Rattle.std.specs.Prelude.{Ok, Err}
use Rattle.answers.specs.declared.answer.Refusal.TheVariants as R
use Rattle.history.specs.Defined.{early, reply_of, reply_on}

-- The memory m of N parts holds the index i.
pub record Holds (N : ℕ) (m : List ℕ) (i : PlaneIndex) : Type 0 where
  pub some_parts : 1 ≤ N
  pub few_parts : N ≤ 256
  pub length_is : length m ≡ 64 + 128 * N
  pub reads : reading fanout m ≡ some i

-- a value by two tests, the later inside
abbrev pub by2 : {A : Type 0} → Bool → Bool → A → A → A → A
by2 a b x y z = cond a (cond b x y) z

module _ (N : ℕ) (m : List ℕ) (i : PlaneIndex) (h : Holds N m i) where
  pub right : is_index_length m ≡ true
  right = is_index_length_lem m N h.length_is h.some_parts h.few_parts

  pub parts : parts_of m ≡ N
  parts = parts_are m N h.length_is

  -- the answers with the tests 1 and 4 taken away
  pub insert_value : (len : ℕ) (e : CellEntry) → insert_answer m len e
      ≡ by2 (eqb len (64 + 128 * N)) (on_grid e.cell)
      (insert_end (cells_removed i e.cell)
      (insertion index_space index_root N i e)) (Err R.Invalid) (Err R.WorkLength)
  unfolding insert_answer insert_read
  insert_value len e = rw (right, h.reads, parts, h.length_is)

  pub remove_value : (c : Cell) → remove_answer m c ≡ cond (on_grid c) (remove_end (removal index_space i c)) (Err R.Invalid)
  unfolding remove_answer remove_read
  remove_value c = rw (right, h.reads)

  pub point_value : (c : Cell) → point_answer m c ≡ cond (on_grid c) (Ok (point_end (entry_at index_space c i) (visits index_space c i))) (Err R.Invalid)
  unfolding point_answer point_read
  point_value c = rw (right, h.reads)

  pub window_value : (w : Rect) (len : ℕ) → window_answer m w len ≡ cond (valid w) (window_read w len (some i)) (Err R.Invalid)
  unfolding window_answer
  window_value w len = rw (right, h.reads)

  pub nearest_value : (c : Cell) → nearest_answer m c
      ≡ cond (on_grid c) (nearest_end c (nearest index_space c i) (walk index_space c i).entered) (Err R.Invalid)
  unfolding nearest_answer nearest_read
  nearest_value c = rw (right, h.reads)

  pub empty_value : (w : Rect) → empty_answer m w
      ≡ cond (valid w)
      (Ok (record { empty = is_empty index_space index_window w i; visits = empty_visits index_space index_window w i }))
      (Err R.Invalid)
  unfolding empty_answer empty_read
  empty_value w = rw (right, h.reads)

  -- the number and values of each answer
  pub insert_reply_lem : (len : ℕ) (e : CellEntry) → insert_reply (insert_answer m len e) ≡ reply_on N i (insert_call e) len
  unfolding reply_on early reply_of answer insert_end
  insert_reply_lem len e =
      ap insert_reply (insert_value len e) ∙ go (eqb len (64 + 128 * N)) (on_grid e.cell) (holds index_space e.cell i) (insert_tree index_space index_root i e)
    where
      go : (a b c : Bool) (t : Option (Tree index_space))
          → insert_reply (by2 a b (insert_end (cells_removed i e.cell)
          (cond c (refused 5) (limited index_space N t))) (Err R.Invalid) (Err R.WorkLength))
          ≡ cond (eqb (by2 a b 0 3 2) 0)
          (reply_of len (outcome_answer index_space (λ n. inserted n (cells_removed i e.cell))
          (cond c (refused 5) (limited index_space N t)))) (record { number = by2 a b 0 3 2; values = [] })
      go false b c t = refl
      go true false c t = refl
      go true true true t = refl
      go true true false none = refl
      go true true false (some t) = last (leb (node_count index_space (some t)) N)
        where
          last : (d : Bool) → insert_reply (insert_end (cells_removed i e.cell) (cond d (accepted (some t)) (refused 8)))
              ≡ reply_of len (outcome_answer index_space (λ n. inserted n (cells_removed i e.cell))
              (cond d (accepted (some t)) (refused 8)))
          last true = refl
          last false = refl

  pub remove_reply_lem : (len : ℕ) (c : Cell) → remove_reply (remove_answer m c) ≡ reply_on N i (remove_call c) len
  unfolding reply_on early reply_of answer remove_end
  remove_reply_lem len c = ap remove_reply (remove_value c) ∙ go (on_grid c) (holds index_space c i)
    where
      go : (a b : Bool) → remove_reply (cond a (remove_end (cond b (accepted (remove index_space c i)) (refused 6))) (Err R.Invalid))
          ≡ cond (eqb (cond a 0 3) 0) (reply_of len (outcome_answer index_space reports (cond b (accepted (remove index_space c i)) (refused 6)))) (record { number = cond a 0 3; values = [] })
      go false b = refl
      go true true = refl
      go true false = refl

  pub clear_reply_lem : (len : ℕ) → clear_reply (clear_answer m) ≡ reply_on N i clear_call len
  unfolding reply_on early reply_of answer clear_answer
  clear_reply_lem len = rw right

  pub point_reply_lem : (len : ℕ) (c : Cell) → point_reply (point_answer m c) ≡ reply_on N i (point_call c) len
  unfolding reply_on early reply_of answer point_end
  point_reply_lem len c = ap point_reply (point_value c) ∙ go (on_grid c) (entry_at index_space c i) (visits index_space c i)
    where
      go : (a : Bool) (o : Option CellEntry) (v : ℕ) → point_reply (cond a (Ok (point_end o v)) (Err R.Invalid))
          ≡ cond (eqb (cond a 0 3) 0) (reply_of len (point_found o v)) (record { number = cond a 0 3; values = [] })
      go false o v = refl
      go true none v = refl
      go true (some e) v = refl

  pub window_reply_lem : (len : ℕ) (w : Rect) → window_reply (window_answer m w len) ≡ reply_on N i (window_call w) len
  unfolding reply_on early reply_of answer window_read
  window_reply_lem len w = ap window_reply (window_value w len) ∙ go (valid w) (leb (list_width * length (matches_in w i)) len)
    where
      go : (a b : Bool)
          → window_reply (cond a (cond b (Ok (record { matches = length (matches_in w i); visits = window_visits index_space index_window w i })) (Err (R.ShortList (length (matches_in w i))))) (Err R.Invalid))
          ≡ cond (eqb (cond a 0 3) 0) (cond b (accepts (length (matches_in w i) ∷ window_visits index_space index_window w i ∷ [])) (record { number = 9; values = length (matches_in w i) ∷ [] })) (record { number = cond a 0 3; values = [] })
      go false b = refl
      go true true = refl
      go true false = refl

  pub nearest_reply_lem : (len : ℕ) (c : Cell) → nearest_reply (nearest_answer m c) ≡ reply_on N i (nearest_call c) len
  unfolding reply_on early reply_of answer nearest_end
  nearest_reply_lem len c = ap nearest_reply (nearest_value c) ∙ go (on_grid c) (nearest index_space c i) (walk index_space c i).entered
    where
      go : (a : Bool) (o : Option CellEntry) (v : ℕ) → nearest_reply (cond a (nearest_end c o v) (Err R.Invalid))
          ≡ cond (eqb (cond a 0 3) 0) (reply_of len (nearest_found index_space c o v)) (record { number = cond a 0 3; values = [] })
      go false o v = refl
      go true none v = refl
      go true (some e) v = refl

  pub empty_reply_lem : (len : ℕ) (w : Rect) → empty_reply (empty_answer m w) ≡ reply_on N i (empty_call w) len
  unfolding reply_on early reply_of answer
  empty_reply_lem len w =
      ap empty_reply (empty_value w)
      ∙ go (valid w) (is_empty index_space index_window w i)
      (empty_visits index_space index_window w i)
    where
      go : (a b : Bool) (v : ℕ) → empty_reply (cond a (Ok (record { empty = b; visits = v })) (Err R.Invalid))
          ≡ cond (eqb (cond a 0 3) 0) (accepts (cond b 1 0 ∷ v ∷ [])) (record { number = cond a 0 3; values = [] })
      go false b v = refl
      go true b v = refl
