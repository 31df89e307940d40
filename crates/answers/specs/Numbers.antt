-- Document 01, 'Causes for saying no': the number and the values that each answer stands for. The number is 0 where
-- the call accepts.
-- docs/RULES.md 4.24, 4.26, 5.4 to 5.6, 5.9, 5.13, 5.18, 7.3, 7.4, 8.10
use Rattle.std.specs.Prelude.{ℕ, cond, List, [], ◌∷◌, get_or, Option, Some, None, Result, Ok, Err}
use Rattle.answers.specs.declared.reply.Reply.{Reply}
use Rattle.answers.specs.declared.answer.Refusal.{Refusal}
use Rattle.answers.specs.declared.answer.Refusal.TheVariants as R
use Rattle.answers.specs.declared.answer.Inserted.{Inserted}
use Rattle.answers.specs.declared.answer.PointFound.{PointFound}
use Rattle.answers.specs.declared.answer.WindowFound.{WindowFound}
use Rattle.answers.specs.declared.answer.NearestFound.{NearestFound}
use Rattle.answers.specs.declared.answer.EmptyFound.{EmptyFound}

-- the numbers of the table
abbrev pub refusal_number : Refusal → ℕ
refusal_number R.WrongLength = 1
refusal_number R.WorkLength = 2
refusal_number R.Invalid = 3
refusal_number R.NoSoundTree = 4
refusal_number R.Held = 5
refusal_number R.NotHeld = 6
refusal_number R.OverLimit = 7
refusal_number R.TooManyNodes = 8
refusal_number (R.ShortList matches) = 9
refusal_number R.NothingHeld = 10

-- a reply is a number of the table, and the values returned with it
abbrev pub refusal : ℕ → Reply
refusal n = record { number = n; values = [] }

abbrev pub accepts : List ℕ → Reply
accepts l = record { number = 0; values = l }

-- 'Insertion, removal and clearing report the entries held after the call'; insertion then 'the total removed by
-- siblings'
abbrev pub insert_reply : Result Inserted Refusal → Reply
insert_reply (Ok done) = accepts (done.held ∷ done.removed ∷ [])
insert_reply (Err r) = refusal (refusal_number r)

-- removal's and clearing's
abbrev pub held_reply : Result ℕ Refusal → Reply
held_reply (Ok held) = accepts (held ∷ [])
held_reply (Err r) = refusal (refusal_number r)

abbrev pub remove_reply : Result ℕ Refusal → Reply
remove_reply r = held_reply r

abbrev pub clear_reply : Result ℕ Refusal → Reply
clear_reply r = held_reply r

-- 'A point query answers held with tag, or not held, and the visits': 1 or 0, visits, then the tag if held
abbrev pub point_values : Option ℕ → ℕ → List ℕ
point_values (Some tag) visits = 1 ∷ visits ∷ tag ∷ []
point_values None visits = 0 ∷ visits ∷ []

abbrev pub point_reply : Result PointFound Refusal → Reply
point_reply (Ok found) = accepts (point_values found.tag found.visits)
point_reply (Err r) = refusal (refusal_number r)

-- 'list shorter than 3 × matches: number, matches'
abbrev pub matches_told : Refusal → List ℕ
matches_told (R.ShortList matches) = matches ∷ []
matches_told r = []

-- 'reports matches and visits'
abbrev pub window_reply : Result WindowFound Refusal → Reply
window_reply (Ok found) = accepts (found.matches ∷ found.visits ∷ [])
window_reply (Err r) = record { number = refusal_number r; values = matches_told r }

-- 'The answer is the entry, the squared distance and the number of nodes entered'; '10, nothing is held'
abbrev pub nearest_reply : Result NearestFound Refusal → Reply
nearest_reply (Ok found) = accepts (found.x ∷ found.y ∷ found.tag ∷ found.distance ∷ found.visits ∷ [])
nearest_reply (Err r) = refusal (refusal_number r)

-- 'a yes or no for a window': 1 or 0, and 'the visits reported'
abbrev pub empty_reply : Result EmptyFound Refusal → Reply
empty_reply (Ok found) = accepts (cond found.empty 1 0 ∷ found.visits ∷ [])
empty_reply (Err r) = refusal (refusal_number r)

-- seven values, 0 where there are fewer
abbrev pub seven_of : List ℕ → List ℕ
seven_of l = get_or l 0 0 ∷ get_or l 1 0 ∷ get_or l 2 0 ∷ get_or l 3 0 ∷ get_or l 4 0 ∷ get_or l 5 0 ∷ get_or l 6 0 ∷ []

-- a reply as the code has it, with room for seven values
unfoldable pub with_seven : Reply → Reply
with_seven r = record { number = r.number; values = seven_of r.values }
