-- A leaf's entries as a list of numbers has them, three each.
use Prim.Native.Nat.{ℕ, ◌+◌, ◌*◌, ◌-◌, ◌≤◌, ◌<◌}
use mathlib.Core.Path.{◌≡◌, refl, sym, ap, ◌∙◌}
use mathlib.Core.List.{List, [], ◌∷◌, flat_map}
use native.Mathlib.Omega.{arith}
use lib.ListN.{length, get_or, take, drop}
use lib.Seq.{take_all, take_at, take-take}
use Rattle.plane.specs.Lines.{CellEntry}
use Rattle.memory.specs.Layout.{item_count, entries_in, children_in}
use Rattle.memory.specs.Image.{padded, entry_numbers}
use Rattle.memory.proofs.PartImage.{length_entries}
use Rattle.layout.specs.declared.node.Node.{Node}
use Rattle.layout.specs.Entries.{numbered}
use Rattle.layout.specs.Loaded.{leaf_of, routing_of, node_of, node_in, node_entries, node_children}
use Rattle.layout.proofs.NodeLaws.{rest_is}
use Rattle.layout.proofs.PartCopies.{entries_numbers}

pub numbered_end : (l : List ℕ) → length l < 3 → numbered l ≡ []
unfolding numbered
numbered_end [] h = refl
numbered_end (x ∷ []) h = refl
numbered_end (x ∷ y ∷ []) h = refl
numbered_end (x ∷ y ∷ t ∷ l) h = absurd (omega arith)

-- the numbers behind the first entry, as a slice has them
abbrev behind : List ℕ → List ℕ
behind l = take (length l - 3) (drop 3 l)

pub numbered_next : (l : List ℕ) → 3 ≤ length l
    → numbered l ≡ record { cell = record { x = get_or l 0 0; y = get_or l 1 0 }; tag = get_or l 2 0 } ∷ numbered (behind l)
unfolding numbered
numbered_next [] h = absurd (omega arith)
numbered_next (x ∷ []) h = absurd (omega arith)
numbered_next (x ∷ y ∷ []) h = absurd (omega arith)
numbered_next (x ∷ y ∷ t ∷ l) h =
    rw (take_all (length (x ∷ y ∷ t ∷ l) - 3) l (omega arith))

pub numbered_fewer : (l : List ℕ) → 3 ≤ length l → length (numbered (behind l)) < length (numbered l)
numbered_fewer l h = rw (numbered_next l h) (omega arith)

-- the entries of the numbers of some entries
pub numbered_numbers : (es : List CellEntry) → numbered (flat_map entry_numbers es) ≡ es
unfolding numbered flat_map entry_numbers
numbered_numbers [] = refl
numbered_numbers (e ∷ es) = ap (λ (l : List CellEntry). e ∷ l) (numbered_numbers es)

-- those of a part
pub numbered_part : (p : List ℕ) (n : ℕ) → 66 + 3 * n ≤ length p → numbered (take (3 * n) (drop 66 p)) ≡ entries_in p n
numbered_part p n h = ap numbered (sym (entries_numbers p n h)) ∙ numbered_numbers (entries_in p n)

pub part_entries : (p : List ℕ) (n : ℕ) (es : List CellEntry) → length p ≡ 128 → n ≤ 20
    → es ≡ numbered (take (3 * n) (take (length p - 66) (drop 66 p))) → es ≡ entries_in p n
part_entries p n es l h e = e ∙ ap (λ (z : List ℕ). numbered (take (3 * n) z)) (rest_is p 66) ∙ numbered_part p n (omega arith)

-- those of a node, and its children: as a part that it was loaded from has them
module _ (p : List ℕ) (n : Node) (q : n ≡ node_in p) where
  pub loaded_entries : item_count p ≤ 9 → length p ≡ 128 → node_entries n ≡ entries_in p (item_count p)
  unfolding node_in
  loaded_entries h l = rw q
      (ap numbered (take-take (3 * item_count p) 27 (drop 66 p) (omega arith)) ∙ numbered_part p (item_count p) (omega arith))

  pub loaded_children : item_count p ≤ 27 → node_children n ≡ children_in p
  unfolding node_in
  loaded_children h = rw q (take-take (item_count p) 27 (drop 66 p) h)

-- and as it was made of them
pub leaf_entries_lem : (es : List CellEntry) → node_entries (leaf_of es) ≡ es
unfolding leaf_of node_of padded
leaf_entries_lem es = ap numbered (take_at (flat_map entry_numbers es) _ (3 * length es) (length_entries es)) ∙ numbered_numbers es

pub routing_children : (ks : List ℕ) → node_children (routing_of ks) ≡ ks
unfolding routing_of node_of padded
routing_children ks = take_at ks _ (length ks) refl
