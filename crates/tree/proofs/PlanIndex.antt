-- Insertion into the whole index by the plan: down the path, then one pass that writes.
use Prim.Native.Nat.{suc}
use mathlib.Core.Path.{◌≡◌, refl, sym, ap}
use mathlib.Core.List.{List, []}
use mathlib.Core.Option.{Option, none, some, bind}
use Rattle.tree.specs.Space.{Space}
use Rattle.tree.specs.Nodes.{EntryOf, Item}
use Rattle.tree.specs.Root.{Root}
use Rattle.tree.specs.Tree.{Tree}
use Rattle.tree.specs.Insert.{rooted, insert_tree}
use Rattle.tree.specs.Plan.{Way, descend, build, write}
use Rattle.tree.proofs.OnePass.{insert_is, write_all}

module _ (S : Space) (R : Root S) where
  -- The plan gives document 01's insertion.
  pub insert_by_plan : (t : Tree S) (e : EntryOf S)
      → insert_tree S R (some t) e ≡ bind (descend S t.level (R.grow_root t.root e.cell) t.items e) (λ w. some (rooted S t.level (R.grow_root t.root e.cell) (write S t.level [] (R.grow_root t.root e.cell) w)))
  unfolding insert_tree
  insert_by_plan t e =
      rw (insert_is S t.level (R.grow_root t.root e.cell) t.items e) (go (descend S t.level (R.grow_root t.root e.cell) t.items e))
    where
      p : S.Poly
      p = R.grow_root t.root e.cell

      go : (m : Option (Way S t.level)) → bind (bind m (λ w. some (build S t.level p w))) (λ got. some (rooted S t.level p got)) ≡ bind m (λ w. some (rooted S t.level p (write S t.level [] p w)))
      go none = unfold bind in refl
      go (some w) = unfold bind in ap (λ (l : List (Item S (suc t.level))). some (rooted S t.level p l)) (sym (write_all S t.level p w))
