-- Lists with the same entries in any order, as the tree's entries and the record are, have the same nearest entries.
use Prim.Native.Nat.{◌≤◌}
use mathlib.Core.Bool.{Bool, true}
use mathlib.Core.Path.{◌≡◌, refl, sym, ap, ◌∙◌, subst}
use mathlib.Core.List.{List, [], ◌∷◌}
use mathlib.Core.Option.{none, some}
use lib.ListN.{length, drop}
use native.Mathlib.Omega.{arith}
use Rattle.tree.specs.Lists.{count_of, Bag}
use Rattle.tree.specs.Space.{Space}
use Rattle.tree.specs.Nodes.{EntryOf}
use Rattle.tree.specs.Query.{of_cell}
use Rattle.tree.specs.Nearest.{nearer, IsNearest, nearest_of}
use Rattle.tree.proofs.Counts.{keep_none}
use Rattle.tree.proofs.Counted.{none_passes, passes_counted, counted_passes, only_passes}
use Rattle.tree.proofs.Bags.{bag_sym, bag_length}
use Rattle.tree.proofs.Entries.{is_entry, is_entry_lem, own_entry}
use Rattle.tree.proofs.NearestLeast.{nearest_is, nearest_some, nearest_rank}
use Rattle.tree.proofs.Laws.{Laws}

module _ (S : Space) (W : Laws S) (c : S.Cell) (es r : List (EntryOf S)) (same : Bag es r) where
  pub nearest_same : (e : EntryOf S) → IsNearest S c es e → IsNearest S c r e
  nearest_same e h =
      let q = is_entry S e in
      let k = passes_counted q es h.place e h.one (own_entry S W e) in
      let n = same q in
      let p = counted_passes q r (omega arith) in
      let t : EntryOf S → Bool = λ f. nearer S c f e in
      let none : count_of t es ≡ 0 = ap length (keep_none t es h.none_nearer) in
      record {
        place = p.place;
        one = p.there ∙ ap some (is_entry_lem S W e p.it p.passes);
        none_nearer = none_passes t r (sym (same t) ∙ none);
      }

-- Where each cell has at most one entry, a list has one nearest entry: ties leave one cell.
module _ (S : Space) (W : Laws S) (c : S.Cell) where
  pub nearest_one : (es : List (EntryOf S)) → ((d : S.Cell) → count_of (of_cell S d) es ≤ 1)
      → (e f : EntryOf S) → IsNearest S c es e → IsNearest S c es f → e ≡ f
  nearest_one es once e f h k =
      let cell = W.ties_cell e f (ap (λ l. drop 1 l) (nearest_rank S c es e f h k)) in
      let own = W.same_self e.cell in
      let other : S.same f.cell e.cell ≡ true = subst (λ d. S.same d e.cell ≡ true) cell own in
      only_passes (of_cell S e.cell) es h.place k.place e f (once e.cell) h.one k.one own other

  -- so a look at all of either of two lists with the same entries gives one entry
  pub same_nearest : (es fs : List (EntryOf S)) → Bag es fs → ((d : S.Cell) → count_of (of_cell S d) es ≤ 1)
      → nearest_of S c none es ≡ nearest_of S c none fs
  same_nearest [] [] same once = refl
  same_nearest [] (f ∷ fs) same once = let n = bag_length [] (f ∷ fs) same in absurd (omega arith)
  same_nearest (e ∷ es) [] same once = let n = bag_length (e ∷ es) [] same in absurd (omega arith)
  same_nearest (e ∷ es) (f ∷ fs) same once =
      let a = nearest_some S c e es in
      let b = nearest_some S c f fs in
      let back = nearest_same S W c (f ∷ fs) (e ∷ es) (bag_sym (e ∷ es) (f ∷ fs) same) in
      let one = nearest_one (e ∷ es) once a.0 b.0 (nearest_is S c (e ∷ es) a.0 a.1)
      (back b.0 (nearest_is S c (f ∷ fs) b.0 b.1)) in
      a.1 ∙ ap some one ∙ sym b.1
