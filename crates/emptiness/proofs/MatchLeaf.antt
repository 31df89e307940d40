-- The walk at a leaf.
use Prim.Native.Nat.{ℕ, suc, ◌+◌}
use mathlib.Core.Path.{◌≡◌, sym, ap, ◌∙◌}
use mathlib.Core.Bool.{Bool, not}
use mathlib.Core.List.{List}
use native.Mathlib.Numerals.{add-one}
use Rattle.geometry.specs.declared.rect.Rect.{Rect}
use Rattle.tree.specs.Lists.{not_empty}
use Rattle.memory.specs.Layout.{part}
use Rattle.walks.specs.Walks.{inside_test, leaf_entries, Walkable}
use Rattle.emptiness.specs.Below.{to_match_below, found_of}
use Rattle.emptiness.proofs.MatchRows.{leaf_walk}

pub match_leaf : (w : Rect) (level : ℕ) (m : List ℕ) (lo k v : ℕ) (p : List ℕ) (b : Bool) → level ≡ 0
    → Walkable level m lo k → p ≡ part m k → b ≡ not_empty (leaf_entries (inside_test w) p)
    → record { empty = not b; visits = v + 1 } ≡ found_of (to_match_below w level m lo k v)
match_leaf w level m lo k v p b z x q e =
    let y : Walkable 0 m lo k = rw z at x in
    let f : b ≡ not_empty (leaf_entries (inside_test w) (part m k))
    = e ∙ ap (λ (s : List ℕ). not_empty (leaf_entries (inside_test w) s)) q in
    rw (add-one v)
    (ap (λ (a : Bool). found_of (record { found = a; entered = suc v })) f
    ∙ ap found_of (sym (leaf_walk w m lo k v y))
    ∙ ap (λ (n : ℕ). found_of (to_match_below w n m lo k v)) (sym z))
