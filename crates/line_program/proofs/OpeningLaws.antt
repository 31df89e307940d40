-- An index stays one: what is known of it holds after each command.
use Prim.Native.Nat.{ℕ}
use mathlib.Core.Bool.{Bool}
use mathlib.Core.List.{List}
use Rattle.memory.specs.TreeIn.{Reads, Known}
use Rattle.soundness.proofs.ReadsLaws.{reads_right}
use Rattle.std.specs.Prelude.{Option, Some, None}
use Rattle.commands.specs.declared.parsing.Command.{Command}
use Rattle.commands.specs.declared.parsing.Command.TheVariants.{Insert, Remove, Point, Window, Clear}
use Rattle.line_program.specs.Response.{Lent, CarriedOut}
use Rattle.line_program.proofs.ReadsLaws.{cleared_reads, insert_reads, remove_reads}

-- each command leaves an index where there was one
carried_reads : (k : Option Command) (a b : Lent) (text : List ℕ) → CarriedOut k a b text → Reads a.index → Reads b.index
unfolding CarriedOut
carried_reads (Some (Insert x y tag)) a b text d v = insert_reads d.call v
carried_reads (Some (Remove x y)) a b text d v = remove_reads d.call v
carried_reads (Some (Point x y)) a b text d v = rw d.kept v
carried_reads (Some (Window llx lly urx ury)) a b text d v = rw d.index_kept v
carried_reads (Some Clear) a b text d v = rw d.index_is (cleared_reads a.index (reads_right a.index v))
carried_reads None a b text d v = rw d.kept v

pub carried_known : (k : Option Command) (a b : Lent) (text : List ℕ) (known : Bool) → CarriedOut k a b text → Known a.index known
    → Known b.index known
carried_known k a b text known d v = record { sound = λ e. carried_reads k a b text d (v.sound e) }
