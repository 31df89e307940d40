-- Calls as seven numbers each: the kind, the part of the lent list that the call gets, from and to, and four arguments.
use Rattle.std.specs.Prelude.{ℕ, zero, suc, ◌+◌, ◌-◌, ◌*◌, ◌/◌, ◌≤◌, Bool, ◌&&◌, cond, List, [], ◌∷◌, ◌++◌, leb, ltb, eqb, get_or, take, drop, length}
use Rattle.geometry.specs.Cells.{cell_of, rect_of}
use Rattle.tree.specs.Calls.{insert_call, remove_call, clear_call, point_call, window_call, nearest_call, empty_call}
use Rattle.plane.specs.Lines.{entry_of}
use Rattle.history.specs.Calls.{IndexCall}
use Rattle.layout.specs.Entries.{tree_entry}
use Rattle.replay.specs.declared.coded.Call.{Call}
use Rattle.replay.specs.declared.coded.Call.TheVariants as C

-- the kind of a call and its four arguments, as numbers
pub record CodedCall : Type 0 where
  pub kind : ℕ
  pub a : ℕ
  pub b : ℕ
  pub c : ℕ
  pub d : ℕ

-- the kind and the arguments of the i-th call
unfoldable pub coded_at : List ℕ → ℕ → CodedCall
coded_at l i = record {
  kind = get_or l (7 * i) 0;
  a = get_or l (7 * i + 3) 0;
  b = get_or l (7 * i + 4) 0;
  c = get_or l (7 * i + 5) 0;
  d = get_or l (7 * i + 6) 0;
}

-- where its part of the lent list starts and ends
abbrev pub from_at : List ℕ → ℕ → ℕ
from_at l i = get_or l (7 * i + 1) 0

abbrev pub to_at : List ℕ → ℕ → ℕ
to_at l i = get_or l (7 * i + 2) 0

-- 0 insertion of (a, b) with the tag c, 1 removal of (a, b), 2 clear, 3 point query of (a, b), 4 window query of
-- (a, b)-(c, d), 5 nearest query of (a, b), 6 emptiness query of (a, b)-(c, d)
unfoldable pub call_of : CodedCall → IndexCall
call_of k =
    cond (eqb k.kind 0) (insert_call (entry_of (cell_of k.a k.b) k.c))
    (cond (eqb k.kind 1) (remove_call (cell_of k.a k.b))
    (cond (eqb k.kind 2) clear_call
    (cond (eqb k.kind 3) (point_call (cell_of k.a k.b))
    (cond (eqb k.kind 4) (window_call (rect_of k.a k.b k.c k.d))
    (cond (eqb k.kind 5) (nearest_call (cell_of k.a k.b)) (empty_call (rect_of k.a k.b k.c k.d)))))))

-- the call as the code has it
abbrev pub index_call : Call → IndexCall
index_call (C.Insert e) = insert_call (tree_entry e)
index_call (C.Remove c) = remove_call c
index_call C.Clear = clear_call
index_call (C.Point c) = point_call c
index_call (C.Window w) = window_call w
index_call (C.Nearest c) = nearest_call c
index_call (C.IsEmpty w) = empty_call w

-- the last known kind
abbrev pub last_kind : ℕ
last_kind = 6

-- the first n calls of a list
unfoldable pub calls_in : List ℕ → ℕ → List IndexCall
calls_in l zero = []
calls_in l (suc n) = calls_in l n ++ (call_of (coded_at l n) ∷ [])

-- The i-th call can be made: it is there and of a known kind, its part is one of a lent list of that length, and there
-- is room for its answer.
unfoldable pub call_fits : List ℕ → ℕ → ℕ → ℕ → Bool
call_fits l i lent answers =
    ltb i (length l / 7)
    && ltb i (answers / 8)
    && leb (get_or l (7 * i) 0) last_kind
    && leb (from_at l i) (to_at l i)
    && leb (to_at l i) lent

-- what that says in numbers
pub record Fits (l : List ℕ) (i lent answers : ℕ) : Type 0 where
  pub there : 7 * i + 7 ≤ length l
  pub room : 8 * i + 8 ≤ answers
  pub ordered : from_at l i ≤ to_at l i
  pub inside : to_at l i ≤ lent

-- the part of the lent list that the i-th call gets, and the list with that part as the call left it
unfoldable pub part_for : List ℕ → ℕ → List ℕ → List ℕ
part_for l i lent = take (to_at l i - from_at l i) (drop (from_at l i) lent)

unfoldable pub part_back : List ℕ → ℕ → List ℕ → List ℕ → List ℕ
part_back l i lent p = take (from_at l i) lent ++ (p ++ drop (to_at l i - from_at l i) (drop (from_at l i) lent))
