-- Document 01: 'Commands: `I x y tag`, `R x y`, `P x y`, `S llx lly urx ury`, `C`. Fields are decimal .., after one
-- space each; .. Other lines, or lines over 80 bytes, print `?`.'
-- docs/RULES.md 9.4, 9.6
use Rattle.std.specs.Prelude.{ℕ, Bool, cond, ◌&&◌, List, [], ◌∷◌, leb, eqb, length, get_or, Option, Some, None}
use Rattle.commands.specs.declared.parsing.Command.{Command}
use Rattle.commands.specs.declared.parsing.Command.TheVariants.{Insert, Remove, Point, Window, Clear}
use Rattle.commands.specs.Bytes.{space, letter_c, letter_i, letter_p, letter_r, letter_s}
use Rattle.commands.specs.Split.{split_at}
use Rattle.commands.specs.Fields.{numbers_of}

-- a letter with as many numbers as its command has
abbrev pub is_command : ℕ → ℕ → ℕ → List ℕ → Bool
is_command letter n b vs = eqb b letter && eqb (length vs) n

unfoldable pub command_for : ℕ → List ℕ → Option Command
command_for b vs =
    cond (is_command letter_i 3 b vs) (Some (Insert (get_or vs 0 0) (get_or vs 1 0) (get_or vs 2 0)))
    (cond (is_command letter_r 2 b vs) (Some (Remove (get_or vs 0 0) (get_or vs 1 0)))
    (cond (is_command letter_p 2 b vs) (Some (Point (get_or vs 0 0) (get_or vs 1 0)))
    (cond (is_command letter_s 4 b vs) (Some (Window (get_or vs 0 0) (get_or vs 1 0) (get_or vs 2 0) (get_or vs 3 0)))
    (cond (is_command letter_c 0 b vs) (Some Clear) None))))

-- the first field is one letter, and the others are numbers
unfoldable pub command_with : List ℕ → Option (List ℕ) → Option Command
command_with [] vs = None
command_with (b ∷ []) None = None
command_with (b ∷ []) (Some vs) = command_for b vs
command_with (b ∷ c ∷ s) vs = None

unfoldable pub command_in : List (List ℕ) → Option Command
command_in [] = None
command_in (f ∷ fs) = command_with f (numbers_of fs)

-- the command of a line without its line feed, if it is one
unfoldable pub command_of : List ℕ → Option Command
command_of line = cond (leb (length line) 80) (command_in (split_at space line)) None
