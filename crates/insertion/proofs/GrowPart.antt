-- A memory in which the image of a node was written to a part in use.
use Prim.Native.Nat.{ℕ, ◌*◌, ◌≤◌, ◌<◌}
use mathlib.Core.Path.{◌≡◌, sym, ap, ◌∙◌}
use mathlib.Core.Bool.{true}
use mathlib.Core.List.{List}
use native.Mathlib.Omega.{arith}
use lib.ListN.{length}
use Rattle.geometry.specs.declared.rect.Rect.{Rect}
use Rattle.plane.specs.Fanout.{fanout}
use Rattle.memory.specs.Layout.{parts_of, part, in_use, bits_set, polygon_in, node_fits, others_zero}
use Rattle.memory.specs.Image.{node_part}
use Rattle.memory.proofs.NodeImage.{node_fits_lem}
use Rattle.memory.proofs.PartImage as image
use Rattle.layout.specs.Beside.{Beside}
use Rattle.layout.specs.PartSet.{set_part, UsedPart}
use Rattle.layout.proofs.BesideLaws.{set_beside, set_unused}
use Rattle.layout.proofs.PartSetLaws.{set_length, set_part_lem, set_in_use, set_bits}

-- The numbers of a node, with its polygon p, c items and their numbers, were written to part k, which was in use; m' is
-- the memory after.
pub record ImagePut (m : List ℕ) (k : ℕ) (p : List Rect) (c : ℕ) (items m' : List ℕ) : Type 0 where
  pub part_is : part m' k ≡ node_part p c items
  pub polygon : p ≡ polygon_in (part m' k)
  pub fits : (w : ℕ) → length items ≡ w * c → node_fits fanout w m' k ≡ true
  pub bits : bits_set m' ≡ bits_set m
  pub in_use : (j : ℕ) → j < 256 → in_use m' j ≡ in_use m j
  pub unused : others_zero m' (parts_of m') ≡ true
  pub beside : Beside m k k m'

pub image_put : (m : List ℕ) (k : ℕ) → UsedPart m k → parts_of m ≤ 256 → others_zero m (parts_of m) ≡ true
    → (p : List Rect) (c : ℕ) (items : List ℕ)
    → 1 ≤ length p → length p ≤ 16 → 1 ≤ c → c ≤ 8 → length items ≤ 62
    → ImagePut m k p c items (set_part m k (node_part p c items))
image_put m k u few others p c items some_rects few_rects some_items few_items fit =
    let q : List ℕ = node_part p c items in
    let ends = u.ends in
    let size = image.part_length p c items few_rects fit in
    let long = set_length m k q ends size in
    let same = set_part_lem m k q ends size in
    record {
      part_is = same;
      polygon = sym (ap polygon_in same ∙ image.part_polygon p c items few_rects fit);
      fits =
          λ w e. node_fits_lem fanout w (set_part m k q) k p c items (record { there = omega arith; used = set_in_use m k q ends size k u.below ∙ u.used; same = same }) some_rects few_rects some_items few_items fit e;
      bits = set_bits m k q ends size;
      in_use = λ j h. set_in_use m k q ends size j h;
      unused = set_unused m k u few others q size;
      beside = set_beside m k u few others q size;
    }
