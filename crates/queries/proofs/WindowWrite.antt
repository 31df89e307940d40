-- The walk that writes the matches of a window: entries put one after another, the loop of a leaf and the loop over the children.
use Prim.Native.Nat.{ℕ, ◌+◌, ◌*◌, ◌-◌, ◌≤◌, ◌<◌}
use mathlib.Core.Path.{◌≡◌, refl, sym, ap, ◌∙◌}
use mathlib.Core.Bool.{Bool, true, false, cond}
use mathlib.Core.List.{List, [], ◌∷◌, ◌++◌, append-nil}
use lib.Seq.{append_snoc}
use native.Mathlib.Omega.{arith}
use lib.ListN.{length, length-append, length-set}
use Rattle.geometry.specs.declared.rect.Rect.{Rect}
use Rattle.geometry.specs.Cells.{has_cell}
use Rattle.tree.specs.Lists.{keep}
use Rattle.plane.specs.Lines.{CellEntry}
use Rattle.memory.specs.Layout.{part, polygon_in, item_count, entries_in}
use Rattle.layout.specs.declared.entry.Entry.{Entry}
use Rattle.layout.specs.Entries.{tree_entry}
use Rattle.layout.specs.Nodes.{child_at, count_at}
use Rattle.answers.specs.Listing.{list_width, put_listed}
use Rattle.walks.specs.Walks.{meets_test, inside_test, leaf_entries, Walkable, matches_below}
use Rattle.walks.proofs.WalkRows.{leaf_entries_lem, node_part_lem}
use Rattle.walks.proofs.WalkLoop.{AtChild, child_start, child_miss, child_hit, end_entries, child_walkable}
use Rattle.queries.specs.Window.{put_entries, Listed, LeafRoom, WalkRoom}

pub length_put : (l : List ℕ) (at : ℕ) (e : CellEntry) → length (put_listed l at e) ≡ length l
unfolding put_listed
length_put l at e = simp length-set

-- entries put in two goes
put_append : (l : List ℕ) (at : ℕ) (es fs : List CellEntry) → put_entries l at (es ++ fs) ≡ put_entries (put_entries l at es) (at + length es) fs
unfolding put_entries
put_append l at [] fs = ap (λ j. put_entries l j fs) (let q : at ≡ at + 0 = omega arith in q)
put_append l at (e ∷ es) fs =
    put_append (put_listed l at e) (at + 1) es fs ∙ ap (λ j. put_entries (put_entries (put_listed l at e) (at + 1) es) j fs) (let q : at + 1 + length es ≡ at + length (e ∷ es) = omega arith in q)

put_one : (l : List ℕ) (at : ℕ) (e : CellEntry) → put_entries l at (e ∷ []) ≡ put_listed l at e
unfolding put_entries
put_one l at e = refl

put_none : (l : List ℕ) (at : ℕ) → Listed l at [] l at
unfolding put_entries
put_none l at = record { next_is = omega arith; list = refl; same_length = refl }

-- written so far, and then some more
more : (l : List ℕ) (at : ℕ) (es : List CellEntry) (l' : List ℕ) (next : ℕ) (fs : List CellEntry) (l'' : List ℕ) (next' : ℕ)
    → Listed l at es l' next → Listed l' next fs l'' next' → Listed l at (es ++ fs) l'' next'
more l at es l' next fs l'' next' x y =
    let a = x.next_is in
    let b = y.next_is in
    record {
      next_is = rw length-append (omega arith);
      list = y.list ∙ ap (λ j. put_entries j next fs) x.list ∙ ap (λ j. put_entries (put_entries l at es) j fs) a ∙ sym (put_append l at es fs);
      same_length = y.same_length ∙ x.same_length;
    }

one_more_lem : (l : List ℕ) (next : ℕ) (e : CellEntry) (l' : List ℕ) → l' ≡ put_listed l next e → Listed l next (e ∷ []) l' (next + 1)
one_more_lem l next e l' q = record { next_is = refl; list = q ∙ sym (put_one l next e); same_length = ap length q ∙ length_put l next e }

-- Before the entries that are left: those of the others that are in the window are written.
pub record WriteLeaf (w : Rect) (p l₀ : List ℕ) (at₀ : ℕ) (left : List CellEntry) (l : List ℕ) (next : ℕ) : Type 0 where
  pub es : List CellEntry
  pub whole : es ++ keep (inside_test w) left ≡ leaf_entries (inside_test w) p
  pub room : list_width * (at₀ + length (leaf_entries (inside_test w) p)) ≤ length l₀
  pub so_far : Listed l₀ at₀ es l next

module _ (w : Rect) (p l₀ : List ℕ) (at₀ : ℕ) where
  pub write_start : LeafRoom p w l₀ at₀ → (left : List CellEntry) → left ≡ entries_in p (item_count p)
      → WriteLeaf w p l₀ at₀ left l₀ at₀
  unfolding leaf_entries
  write_start v left q = record { es = []; whole = rw q; room = v.room; so_far = put_none l₀ at₀ }

  module _ (left : List CellEntry) (l : List ℕ) (next : ℕ) (x : WriteLeaf w p l₀ at₀ left l next) where
    pub write_end : left ≡ [] → Listed l₀ at₀ (leaf_entries (inside_test w) p) l next
    unfolding keep
    write_end q =
        let a : x.es ++ [] ≡ leaf_entries (inside_test w) p = rw q at x.whole in
        rw (sym (append-nil x.es) ∙ a) at x.so_far

    module _ (e : Entry) (others : List CellEntry) (q : left ≡ tree_entry e ∷ others) (b : Bool) (is : b ≡ has_cell w e.cell) where
      passed : b ≡ inside_test w (tree_entry e)
      unfolding inside_test
      passed = is

      whole_next : x.es ++ cond b (tree_entry e ∷ keep (inside_test w) others) (keep (inside_test w) others)
          ≡ leaf_entries (inside_test w) p
      unfolding keep
      whole_next = rw passed (rw q at x.whole)

      pub write_room : b ≡ true → list_width * (next + 1) ≤ length l
      write_room f =
          let a : x.es ++ (tree_entry e ∷ keep (inside_test w) others) ≡ leaf_entries (inside_test w) p = rw f at whole_next in
          let n = simp length-append at (ap length a) in
          let r = x.room in
          let s = x.so_far.next_is in
          let t = x.so_far.same_length in
          omega arith

      pub write_miss : b ≡ false → WriteLeaf w p l₀ at₀ others l next
      write_miss f = record { es = x.es; whole = rw f at whole_next; room = x.room; so_far = x.so_far }

      pub write_hit : (l'' l' : List ℕ) (next' : ℕ) → b ≡ true → l'' ≡ put_listed l next (tree_entry e)
          → l' ≡ l'' → next' ≡ next + 1 → WriteLeaf w p l₀ at₀ others l' next'
      write_hit l'' l' next' f u s r =
          let a : x.es ++ (tree_entry e ∷ keep (inside_test w) others) ≡ leaf_entries (inside_test w) p = rw f at whole_next in
          rw (s, r) (record {
            es = x.es ++ (tree_entry e ∷ []);
            whole = append_snoc x.es (tree_entry e) (keep (inside_test w) others) ∙ a;
            room = x.room;
            so_far = more l₀ at₀ x.es l next (tree_entry e ∷ []) l'' (next + 1) x.so_far (one_more_lem l next (tree_entry e) l'' u);
          })

module _ (w : Rect) (level : ℕ) (m : List ℕ) (lo k : ℕ) (l : List ℕ) (at : ℕ) where
  -- a node that is a leaf
  pub written_leaf_room : (p : List ℕ) → level ≡ 0 → WalkRoom level m lo k w l at → p ≡ part m k → LeafRoom p w l at
  written_leaf_room p z v q =
      let v' : Walkable 0 m lo k = rw z at v.walk in
      let r : list_width * (at + length (matches_below w 0 m lo k)) ≤ length l = rw z at v.room in
      record {
        leaf = node_part_lem 0 m lo k v' p q;
        room = rw (q, ← (leaf_entries_lem (meets_test w) (inside_test w) m lo k v')) r;
      }

  pub written_leaf : (p l' : List ℕ) (next : ℕ) → level ≡ 0 → WalkRoom level m lo k w l at → p ≡ part m k
      → Listed l at (leaf_entries (inside_test w) p) l' next
      → Listed l at (matches_below w level m lo k) l' next
  written_leaf p l' next z v q e =
      let v' : Walkable 0 m lo k = rw z at v.walk in
      rw (z, leaf_entries_lem (meets_test w) (inside_test w) m lo k v', ← q) e

-- Before the i-th child: the matches below the children that were passed are written.
pub record WriteLoop (w : Rect) (level : ℕ) (m : List ℕ) (lo k n : ℕ) (l₀ : List ℕ) (at₀ i low : ℕ) (l : List ℕ) (next : ℕ) : Type 0 where
  pub vs : ℕ
  pub es : List CellEntry
  pub at : AtChild (meets_test w) (inside_test w) level m lo k n i low vs es
  pub room : list_width * (at₀ + length (matches_below w level m lo k)) ≤ length l₀
  pub so_far : Listed l₀ at₀ es l next

module _ (w : Rect) (level : ℕ) (m : List ℕ) (lo k n : ℕ) (l₀ : List ℕ) (at₀ : ℕ) where
  pub writing_start : (level ≡ 0 → ⊥) → WalkRoom level m lo k w l₀ at₀ → n ≡ count_at m k → WriteLoop w level m lo k n l₀ at₀ 0 lo l₀ at₀
  writing_start ne v c = record { vs = 1; es = []; at = child_start (meets_test w) (inside_test w) level m lo k n ne v.walk c; room = v.room; so_far = put_none l₀ at₀ }

  module _ (i low : ℕ) (l : List ℕ) (next : ℕ) (x : WriteLoop w level m lo k n l₀ at₀ i low l next) where
    pub writing_end : n ≤ i → Listed l₀ at₀ (matches_below w level m lo k) l next
    writing_end h = rw (end_entries (meets_test w) (inside_test w) level m lo k n i low x.vs x.es x.at h) at x.so_far

    module _ (h : i < n) (j : ℕ) (j_is : j ≡ child_at m k i) (b : Bool) (e : b ≡ meets_test w (polygon_in (part m j))) where
      pub writing_room : b ≡ true → WalkRoom (level - 1) m low (j) w l next
      writing_room f =
          let a = (child_hit (meets_test w) (inside_test w) level m lo k n i low x.vs x.es x.at h j j_is b e f).entries in
          let q = simp length-append at (ap length a) in
          let r = x.room in
          let s = x.so_far.next_is in
          let t = x.so_far.same_length in
          record {
            walk = child_walkable (meets_test w) (inside_test w) level m lo k n i low x.vs x.es x.at h j j_is;
            room = omega arith;
          }

      pub writing_miss : (l' : List ℕ) (next' : ℕ) → b ≡ false → l' ≡ l → next' ≡ next
          → WriteLoop w level m lo k n l₀ at₀ (i + 1) (j + 1) l' next'
      writing_miss l' next' f q r = rw (q, r) (record {
        vs = x.vs;
        es = x.es;
        at = child_miss (meets_test w) (inside_test w) level m lo k n i low x.vs x.es x.at h j j_is b e f;
        room = x.room;
        so_far = x.so_far;
      })

      pub writing_hit : (l'' l' : List ℕ) (next' next'' : ℕ) → b ≡ true
          → Listed l next (matches_below w (level - 1) m low (j)) l'' next' → l' ≡ l'' → next'' ≡ next'
          → WriteLoop w level m lo k n l₀ at₀ (i + 1) (j + 1) l' next''
      writing_hit l'' l' next' next'' f q s r = rw (s, r) (record {
        vs = _;
        es = _;
        at = child_hit (meets_test w) (inside_test w) level m lo k n i low x.vs x.es x.at h j j_is b e f;
        room = x.room;
        so_far = more l₀ at₀ x.es l next _ l'' next' x.so_far q;
      })
