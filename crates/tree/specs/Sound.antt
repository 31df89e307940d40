-- Document 01, 'The tree and its memory': "Sound means: ..", clause by clause, for the items of one node and all below
-- it.
-- docs/RULES.md 3.1, 3.2, 3.7
use Rattle.std.specs.Prelude.{ℕ, zero, suc, ◌≤◌, true, List, ◌≡◌, length}
use Rattle.tree.specs.Lists.{All, Pairs}
use Rattle.tree.specs.Space.{Space}
use Rattle.tree.specs.Nodes.{Item, item_has}

module _ (S : Space) where
  -- "a child's cells lie among its parent's"; "a leaf's polygon contains its entries": p is the node's polygon.
  abbrev pub Within : (n : ℕ) → S.Poly → Item S n → Type 0
  Within n p x = (c : S.Cell) → item_has S n x c ≡ true → S.has p c ≡ true

  -- "siblings share no cell"; "no cell has two entries", said of one leaf's entries: of two leaves it follows, as they
  -- share no cell and contain their entries (cell_once in proofs/Leaves).
  abbrev pub Apart : (n : ℕ) → Item S n → Item S n → Type 0
  Apart n x y = (c : S.Cell) → item_has S n x c ≡ true → item_has S n y c ≡ true → ⊥

  -- "1 to 8 entries", "1 to 8 branches"; the fanout is a parameter.
  abbrev pub Count : {A : Type 0} → List A → Type 0
  Count l = (1 ≤ length l) × (length l ≤ S.most)

  -- A branch of a node with the polygon p, where Each says that an item of its child is sound.
  pub record SoundBranch (n : ℕ) (p : S.Poly) (b : Item S (suc n)) (Each : Item S n → Type 0) : Type 0 where
    pub within : Within (suc n) p b
    pub fine : S.Fine b.poly
    pub count : Count b.child
    pub each : All Each b.child
    pub apart : Pairs (Apart n) b.child

  -- An item of a node with the polygon p, and all below it.
  unfoldable pub SoundItem : (n : ℕ) → S.Poly → Item S n → Type 0
  SoundItem zero p e = Within zero p e
  SoundItem (suc n) p b = SoundBranch n p b (SoundItem n b.poly)

  -- The items of a node with the polygon p, their number aside. The type of Item says that "leaves are equally deep".
  pub record SoundItems (n : ℕ) (p : S.Poly) (items : List (Item S n)) : Type 0 where
    pub each : All (SoundItem n p) items
    pub apart : Pairs (Apart n) items
