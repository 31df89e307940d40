-- Document 01: the record. "It is a list of entries, empty at the start."
-- docs/RULES.md 6.4, 6.5
use Rattle.std.specs.Prelude.{Bool, true, false, List, [], ◌∷◌, ◌++◌}
use Rattle.tree.specs.Lists.{keep}
use Rattle.tree.specs.Space.{Space}
use Rattle.tree.specs.Nodes.{EntryOf}
use Rattle.tree.specs.Remove.{other}
use Rattle.tree.specs.Query.{Window}
use Rattle.tree.specs.Calls.{Call, insert_call, remove_call, clear_call, point_call, window_call, nearest_call, empty_call}

module _ {S : Space} {Win : Window S} where
  -- "The record is fed each call's kind, its arguments other than lent lists, and whether it was accepted; it never
  -- looks at the memory."
  unfoldable pub recorded : List (EntryOf S) → Call S Win → Bool → List (EntryOf S)
  -- "An accepted insertion puts its entry last."
  recorded r (insert_call e) true = r ++ (e ∷ [])
  -- "An accepted removal takes out the entry it names."
  recorded r (remove_call c) true = keep (other S c) r
  -- "An accepted clear empties it."
  recorded r clear_call true = []
  -- "A query or a refused call leaves it alone."
  recorded r (point_call c) true = r
  recorded r (window_call w) true = r
  recorded r (nearest_call c) true = r
  recorded r (empty_call w) true = r
  recorded r k false = r

  -- The record after a list of calls, each with whether it was accepted.
  unfoldable pub record_of : List (EntryOf S) → List (Call S Win) → List Bool → List (EntryOf S)
  record_of r (k ∷ ks) (b ∷ bs) = record_of (recorded r k b) ks bs
  record_of r [] bs = r
  record_of r (k ∷ ks) [] = r
