-- The extents of a branch written to the list.
use Prim.Native.Nat.{ℕ, ◌+◌, ◌<◌, ◌≤◌}
use mathlib.Core.Path.{◌≡◌}
use mathlib.Core.Bool.{Bool, true, false}
use mathlib.Core.List.{List, [], ◌∷◌, ◌++◌, append_assoc}
use native.Mathlib.Omega.{arith}
use lib.ListN.{length, length-append}
use Rattle.geometry.specs.declared.rect.Cell.{Cell}
use Rattle.geometry.specs.declared.rect.Line.{Line}
use Rattle.geometry.specs.declared.rect.Rect.{Rect}
use Rattle.geometry.specs.declared.rect.Side.TheVariants.{Left, Right}
use Rattle.walks.specs.Count.{entries_at}
use Rattle.split_line.specs.Sides.{side_of}
use Rattle.split_line.specs.GroupExtent.{extent_rect_of}
use Rattle.split_line.specs.GroupExtents.{BranchHere, side_extent, branch_extents}

module _ (n : ℕ) (m : List ℕ) (lo k : ℕ) (halved : Bool) (below : Line) (c : Cell) (l : List Rect) (v : BranchHere n m lo k halved below c l) where
  two : halved ≡ true → length l + 2 ≤ 9
  two h = rw h at v.room

  pub room_first : halved ≡ true → length l < 9
  room_first h = let r = two h in omega arith

  pub room_second : (a : Rect) (l₁ : List Rect) → halved ≡ true → l₁ ≡ l ++ (a ∷ []) → length l₁ < 9
  room_second a l₁ h e = let r = two h in rw (e, length-append) (omega arith)

  pub room_one : halved ≡ false → length l < 9
  room_one h = let r : length l + 1 ≤ 9 = rw h at v.room in omega arith

  pub put_halves : (a b : Rect) (l₁ l₂ : List Rect) → halved ≡ true
      → a ≡ side_extent n m lo k (side_of (Left below)) c → b ≡ side_extent n m lo k (side_of (Right below)) c
      → l₁ ≡ l ++ (a ∷ []) → l₂ ≡ l₁ ++ (b ∷ []) → l₂ ≡ l ++ branch_extents n m lo k halved below c
  unfolding branch_extents side_of
  put_halves a b l₁ l₂ h q q' e f = rw (h, ← q, ← q', f, e, append_assoc)

  pub put_whole : (a : Rect) (l₁ : List Rect) → halved ≡ false → a ≡ extent_rect_of (entries_at n m lo k) → l₁ ≡ l ++ (a ∷ []) → l₁ ≡ l ++ branch_extents n m lo k halved below c
  unfolding branch_extents
  put_whole a l₁ h q e = rw (h, ← q) e
