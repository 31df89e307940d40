-- Document 01: 'Each sound tree of at most N nodes has an accepted image.'
use Prim.Native.Nat.{ℕ, ◌+◌, ◌*◌, ◌≤◌}
use mathlib.Core.Path.{◌≡◌}
use mathlib.Core.List.{List}
use mathlib.Core.Option.{none, some}
use lib.ListN.{length, replicate, length-replicate}
use Rattle.tree.specs.Lists.{All}
use Rattle.tree.specs.Nodes.{nodes}
use Rattle.tree.specs.Tree.{Index, entries, node_count, Sound}
use Rattle.plane.specs.Plane.{plane_space, plane_root}
use Rattle.memory.specs.Reading.{reading}
use Rattle.memory.specs.Image.{image}
use Rattle.memory.proofs.SoundTested.{test_of_sound}
use Rattle.memory.proofs.ReadingLaws.{fresh}
use Rattle.memory.proofs.ImageLaws.{image_length, image_reads}
use Rattle.memory.proofs.ImageWords.{Words, Tagged, zero_words, image_words}

-- A memory of N parts that is accepted as the index: of the right length, of 32-bit numbers, and read as that index.
pub record AcceptedAs (fanout N : ℕ) (t : Index (plane_space fanout)) : Type 0 where
  pub memory : List ℕ
  pub length_is : length memory ≡ 64 + 128 * N
  pub words : Words memory
  pub reads : reading fanout memory ≡ some t

module _ (fanout N : ℕ) (small : fanout ≤ 20) (some_part : 1 ≤ N) (few_parts : N ≤ 256) where
  -- An entry's tag has 32 bits; the empty index is a sound tree of no node.
  pub accepted_image : (t : Index (plane_space fanout)) → Sound (plane_space fanout) (plane_root fanout) t
      → node_count (plane_space fanout) t ≤ N → All Tagged (entries (plane_space fanout) t) → AcceptedAs fanout N t
  unfolding nodes
  accepted_image none sound fit tags = record {
    memory = replicate (64 + 128 * N) 0;
    length_is = length-replicate _ 0;
    words = zero_words (64 + 128 * N);
    reads = fresh fanout N some_part few_parts;
  }
  accepted_image (some t) sound fit tags =
      let tested = test_of_sound fanout t sound in
      record {
        memory = image fanout N t;
        length_is = image_length fanout N t small some_part few_parts fit tested;
        words = image_words fanout small N t few_parts fit tested tags;
        reads = image_reads fanout N t small some_part few_parts fit tested;
      }
