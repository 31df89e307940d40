-- What is written to a level of the path, and what that leaves as it was.
use Prim.Native.Nat.{ℕ, ◌≤◌}
use mathlib.Core.Path.{◌≡◌, ap, ◌∙◌, subst, sym}
use mathlib.Core.List.{List}
use native.Mathlib.Omega.{arith}
use lib.ListN.{length, set, length-set}
use lib.Seq.{get_or-set_same, get_or-set_other}
use Rattle.std.specs.Prelude.{Some, None}
use Rattle.geometry.specs.declared.rect.Line.{Line}
use Rattle.geometry.specs.declared.rect.Rect.{Rect}
use Rattle.geometry.specs.declared.polygon.Polygon.{Polygon}
use Rattle.geometry.specs.Numbers.{rects_of}
use Rattle.path.specs.declared.level.Level.{Level}
use Rattle.path.specs.Level.{level_of}
use Rattle.path.specs.Path.{no_level, level_on, part_on, place_on, line_on, rect_count_on, polygon_on, HasLevel, FewRects, SameLevel}

-- the level below one that the path has
pub level_below : (path : List Level) (n j : ℕ) → HasLevel n path → j ≤ n → HasLevel j path
level_below path n j h i = omega arith

-- a path as long has the same levels
pub level_kept : (path path' : List Level) (n : ℕ) → length path' ≡ length path → HasLevel n path → HasLevel n path'
level_kept path path' n e h = omega arith

pub few_kept : (path path' : List Level) (n : ℕ) → rect_count_on path' n ≡ rect_count_on path n → FewRects n path → FewRects n path'
few_kept path path' n e h = omega arith

pub same_level_trans : (j : ℕ) (a b c : List Level) → SameLevel j a b → SameLevel j b c → SameLevel j a c
same_level_trans j a b c x y = y ∙ x

-- The part k and the polygon p of a node were written to the level n; the node is not split so far.
pub record LevelPut (path : List Level) (n k : ℕ) (p : List Rect) (path' : List Level) : Type 0 where
  pub same_length : length path' ≡ length path
  pub part : part_on path' n ≡ k
  pub line : line_on path' n ≡ None
  pub polygon : polygon_on path' n ≡ p
  pub few : FewRects n path'
  pub others : (j : ℕ) → (j ≡ n → ⊥) → SameLevel j path path'

-- The place x of the branch gone to was written to the level n.
pub record PlacePut (path : List Level) (n x : ℕ) (path' : List Level) : Type 0 where
  pub same_length : length path' ≡ length path
  pub part : part_on path' n ≡ part_on path n
  pub place : place_on path' n ≡ x
  pub line : line_on path' n ≡ line_on path n
  pub count : rect_count_on path' n ≡ rect_count_on path n
  pub polygon : polygon_on path' n ≡ polygon_on path n
  pub others : (j : ℕ) → (j ≡ n → ⊥) → SameLevel j path path'

-- The line x that splits the node was written to the level n.
pub record LinePut (path : List Level) (n : ℕ) (x : Line) (path' : List Level) : Type 0 where
  pub same_length : length path' ≡ length path
  pub part : part_on path' n ≡ part_on path n
  pub place : place_on path' n ≡ place_on path n
  pub line : line_on path' n ≡ Some x
  pub count : rect_count_on path' n ≡ rect_count_on path n
  pub polygon : polygon_on path' n ≡ polygon_on path n
  pub others : (j : ℕ) → (j ≡ n → ⊥) → SameLevel j path path'

module _ (path : List Level) (n : ℕ) (h : HasLevel n path) where
  here : (v : Level) → level_on (set path n v) n ≡ v
  here v = get_or-set_same path n v no_level h

  others : (v : Level) (j : ℕ) → (j ≡ n → ⊥) → SameLevel j path (set path n v)
  others v j ne = get_or-set_other path n j v no_level ne

  pub level_put : (k : ℕ) (q : Polygon) → q.count ≤ 16 → LevelPut path n k (rects_of q) (set path n (level_of k q))
  level_put k q f =
      let e = here (level_of k q) in
      record {
        same_length = length-set path n (level_of k q);
        part = ap (λ l. l.part) e;
        line = ap (λ l. l.line) e;
        polygon = ap (λ l. rects_of l.polygon) e;
        few = subst (λ (l : Level). l.polygon.count ≤ 16) (sym e) f;
        others = others (level_of k q);
      }

  pub level_put_is : (k : ℕ) (q : Polygon) (v : Level) → v ≡ level_of k q → q.count ≤ 16 → LevelPut path n k (rects_of q) (set path n v)
  level_put_is k q v e f = subst (λ (l : Level). LevelPut path n k (rects_of q) (set path n l)) (sym e) (level_put k q f)

  pub place_put : (x : ℕ) → PlacePut path n x (set path n (record { part = part_on path n; place = x; line = line_on path n; polygon = (level_on path n).polygon }))
  place_put x =
      let v : Level = record { part = part_on path n; place = x; line = line_on path n; polygon = (level_on path n).polygon } in
      let e = here v in
      record {
        same_length = length-set path n v;
        part = ap (λ l. l.part) e;
        place = ap (λ l. l.place) e;
        line = ap (λ l. l.line) e;
        count = ap (λ l. l.polygon.count) e;
        polygon = ap (λ l. rects_of l.polygon) e;
        others = others v;
      }

  pub line_put : (x : Line) → LinePut path n x (set path n (record { part = part_on path n; place = place_on path n; line = Some x; polygon = (level_on path n).polygon }))
  line_put x =
      let v : Level = record { part = part_on path n; place = place_on path n; line = Some x; polygon = (level_on path n).polygon } in
      let e = here v in
      record {
        same_length = length-set path n v;
        part = ap (λ l. l.part) e;
        place = ap (λ l. l.place) e;
        line = ap (λ l. l.line) e;
        count = ap (λ l. l.polygon.count) e;
        polygon = ap (λ l. rects_of l.polygon) e;
        others = others v;
      }
