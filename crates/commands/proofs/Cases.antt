-- Lines and answers worked out: the definitions compute.
use mathlib.Core.Path.{◌≡◌, refl}
use mathlib.Core.List.{[], ◌∷◌, map, flat_map}
use Rattle.std.specs.Prelude.{Some, None, Ok, Err}
use Rattle.commands.specs.declared.parsing.Command.TheVariants.{Insert, Remove, Point, Window, Clear}
use Rattle.answers.specs.declared.answer.Refusal.TheVariants.{Held}
use Rattle.commands.specs.Split.{split_at, put_first}
use Rattle.commands.specs.Fields.{is_digit, all_digits, decimal_from, number_of, with_number, numbers_of}
use Rattle.commands.specs.Commands.{command_for, command_with, command_in, command_of}
use Rattle.commands.specs.Text.{digits_of, number_text, field_text, line_text, refusal_text}
use Rattle.commands.specs.AnswerText.{insert_text, point_text, entries_text, window_text}

-- `I 10 9 7`, `R 65535 0000000001`, `P 4294967295 0`, `P 4294967296 0`, `S 1 2 3 4`, `C`, `C `, `C 1`, ` C`, the empty line
pub lines_read :
    map command_of (
    (73 ∷ 32 ∷ 49 ∷ 48 ∷ 32 ∷ 57 ∷ 32 ∷ 55 ∷ [])
    ∷ (82 ∷ 32 ∷ 54 ∷ 53 ∷ 53 ∷ 51 ∷ 53 ∷ 32 ∷ 48 ∷ 48 ∷ 48 ∷ 48 ∷ 48 ∷ 48 ∷ 48 ∷ 48 ∷ 48 ∷ 49 ∷ [])
    ∷ (80 ∷ 32 ∷ 52 ∷ 50 ∷ 57 ∷ 52 ∷ 57 ∷ 54 ∷ 55 ∷ 50 ∷ 57 ∷ 53 ∷ 32 ∷ 48 ∷ [])
    ∷ (80 ∷ 32 ∷ 52 ∷ 50 ∷ 57 ∷ 52 ∷ 57 ∷ 54 ∷ 55 ∷ 50 ∷ 57 ∷ 54 ∷ 32 ∷ 48 ∷ [])
    ∷ (83 ∷ 32 ∷ 49 ∷ 32 ∷ 50 ∷ 32 ∷ 51 ∷ 32 ∷ 52 ∷ [])
    ∷ (67 ∷ [])
    ∷ (67 ∷ 32 ∷ [])
    ∷ (67 ∷ 32 ∷ 49 ∷ [])
    ∷ (32 ∷ 67 ∷ [])
    ∷ []
    ∷ []
    )
    ≡ Some (Insert 10 9 7) ∷ Some (Remove 65535 1) ∷ Some (Point 4294967295 0) ∷ None ∷ Some (Window 1 2 3 4) ∷ Some Clear ∷ None ∷ None ∷ None ∷ None ∷ []
unfolding command_of command_in command_with command_for split_at put_first numbers_of with_number number_of all_digits is_digit decimal_from
lines_read = refl

-- `I 0 12 0`, `I 0 4294967295 4294967296`, `I 0 12 18446744073709551615`, `I ! 5`
pub insertions_written :
    map insert_text (
    Ok (record { held = 12; removed = 0 })
    ∷ Ok (record { held = 4294967295; removed = 4294967296 })
    ∷ Ok (record { held = 12; removed = 18446744073709551615 })
    ∷ Err Held
    ∷ []
    )
    ≡ (73 ∷ 32 ∷ 48 ∷ 32 ∷ 49 ∷ 50 ∷ 32 ∷ 48 ∷ 10 ∷ [])
    ∷ (73 ∷ 32 ∷ 48 ∷ 32 ∷ 52 ∷ 50 ∷ 57 ∷ 52 ∷ 57 ∷ 54 ∷ 55 ∷ 50 ∷ 57 ∷ 53
    ∷ 32 ∷ 52 ∷ 50 ∷ 57 ∷ 52 ∷ 57 ∷ 54 ∷ 55 ∷ 50 ∷ 57 ∷ 54 ∷ 10 ∷ [])
    ∷ (73 ∷ 32 ∷ 48 ∷ 32 ∷ 49 ∷ 50
    ∷ 32 ∷ 49 ∷ 56 ∷ 52 ∷ 52 ∷ 54 ∷ 55 ∷ 52 ∷ 52 ∷ 48 ∷ 55 ∷ 51 ∷ 55 ∷ 48 ∷ 57 ∷ 53 ∷ 53 ∷ 49 ∷ 54 ∷ 49 ∷ 53 ∷ 10 ∷ [])
    ∷ (73 ∷ 32 ∷ 33 ∷ 32 ∷ 53 ∷ 10 ∷ [])
    ∷ []
unfolding insert_text line_text refusal_text field_text number_text digits_of flat_map
insertions_written = refl

-- `P 1 3 4294967295`, `P 0 100`
pub points_written :
    map point_text (Ok (record { tag = Some 4294967295; visits = 3 }) ∷ Ok (record { tag = None; visits = 100 }) ∷ [])
    ≡ (80 ∷ 32 ∷ 49 ∷ 32 ∷ 51 ∷ 32 ∷ 52 ∷ 50 ∷ 57 ∷ 52 ∷ 57 ∷ 54 ∷ 55 ∷ 50 ∷ 57 ∷ 53 ∷ 10 ∷ []) ∷ (80 ∷ 32 ∷ 48 ∷ 32 ∷ 49 ∷ 48 ∷ 48 ∷ 10 ∷ []) ∷ []
unfolding point_text line_text field_text number_text digits_of flat_map
points_written = refl

-- `S 1 2`, then `E 7 8 9`
pub window_written_lem : window_text (Ok (record { matches = 1; visits = 2 })) (7 ∷ 8 ∷ 9 ∷ 0 ∷ []) ≡ 83 ∷ 32 ∷ 49 ∷ 32 ∷ 50 ∷ 10 ∷ 69 ∷ 32 ∷ 55 ∷ 32 ∷ 56 ∷ 32 ∷ 57 ∷ 10 ∷ []
unfolding entries_text line_text field_text number_text digits_of flat_map
window_written_lem = refl
