-- Answers as eight numbers each, and what is known of a call that was made.
use Rattle.std.specs.Prelude.{ℕ, ◌*◌, List, ◌∷◌, ◌≡◌}
use Rattle.std.proofs.lemmas.List.Edits.{sets}
use Rattle.answers.specs.declared.reply.Reply.{Reply}
use Rattle.answers.specs.Numbers.{with_seven}
use Rattle.history.specs.Calls.{IndexCall}
use Rattle.history.specs.Contract.{ByContract}

-- the numbers of a reply
unfoldable pub reply_numbers : Reply → List ℕ
reply_numbers r = r.number ∷ r.values

-- a list of answers with a reply at the i-th place
unfoldable pub put_reply : List ℕ → ℕ → Reply → List ℕ
put_reply l i r = sets l (8 * i) (reply_numbers r)

-- A call was made on the index m with the list l lent besides, left m' and l', and replied r.
pub record Replied (k : IndexCall) (m l m' l' : List ℕ) (r : Reply) : Type 0 where
  pub reply : Reply
  pub reply_is : r ≡ with_seven reply
  pub kept : ByContract (record { call = k; before = m; after = m'; lent = l; at_exit = l'; reply = reply })
