-- The lines of the entries that a window query lists.
use Rattle.std.proofs.Common.{◌≡◌, ℕ, ◌+◌, ◌*◌, ◌≤◌, ◌<◌, List, [], ◌∷◌, length, get_or, arith, add-one, append-nil, length-append, Fits, w32}
use Rattle.std.specs.Prelude.{Result, Ok, Err}
use Rattle.answers.specs.declared.answer.Refusal.{Refusal}
use Rattle.answers.specs.declared.answer.Refusal.TheVariants as R
use Rattle.answers.specs.Numbers.{refusal_number}
use Rattle.answers.specs.declared.answer.WindowFound.{WindowFound}
use Rattle.commands.specs.declared.output.Output.{Output}
use Rattle.commands.specs.Text.{line_text, refusal_text}
use Rattle.commands.specs.Output.{Appended}
use Rattle.commands.specs.AnswerText.{entries_text, listed, window_text}
use Rattle.commands.proofs.TextLaws.{append_more, line_two_few, line_three_few, refusal_few}

-- A text of at most k bytes was put.
pub record Lines (k : ℕ) (a : Output) (text : List ℕ) (b : Output) : Type 0 where
  pub few : length text ≤ k
  pub put : Appended a text b

-- the lines of one entry more
pub entries_more : (a b c : Output) (list : List ℕ) (i x y tag : ℕ)
    → ((k : ℕ) → Fits w32 (get_or list k 0))
    → x ≡ get_or list (3 * i) 0 → y ≡ get_or list (3 * i + 1) 0 → tag ≡ get_or list (3 * i + 2) 0
    → Lines (35 * i) a (entries_text list i) b → Appended b (line_text 69 (x ∷ y ∷ tag ∷ [])) c
    → Lines (35 * (i + 1)) a (entries_text list (i + 1)) c
unfolding entries_text
entries_more a b c list i x y tag fits p q r v w =
    let f : (k : ℕ) → get_or list k 0 < 4294967296 = λ k. omega (arith, fits k) in
    let l = line_three_few 69 (get_or list (3 * i) 0) (get_or list (3 * i + 1) 0) (get_or list (3 * i + 2) 0) (f _) (f _) (f _) in
    let w : Appended b (line_text 69 (get_or list (3 * i) 0 ∷ get_or list (3 * i + 1) 0 ∷ get_or list (3 * i + 2) 0 ∷ [])) c = rw (← p, ← q, ← r) w in
    rw (add-one i) record { few = rw length-append (omega (arith, v.few, l)); put = append_more a b c _ _ v.put w }

-- the bytes of a window query's lines
pub window_few : (answer : Result WindowFound Refusal) (list : List ℕ) (found : WindowFound) → answer ≡ Ok found → 3 * listed answer ≤ length list
    → found.matches < 4294967296 → found.visits < 4294967296 → length (entries_text list found.matches) ≤ 35 * found.matches
    → length (window_text answer list) ≤ 24 + 12 * length list
window_few answer list found e h f g k =
    let h : 3 * found.matches ≤ length list = rw e at h in
    rw (e, length-append) (omega (arith, line_two_few 83 found.matches found.visits f g))

refused_text : (r : Refusal) (list : List ℕ) → window_text (Err r) list ≡ refusal_text 83 (refusal_number r)
unfolding entries_text
refused_text R.WrongLength list = append-nil _
refused_text R.WorkLength list = append-nil _
refused_text R.Invalid list = append-nil _
refused_text R.NoSoundTree list = append-nil _
refused_text R.Held list = append-nil _
refused_text R.NotHeld list = append-nil _
refused_text R.OverLimit list = append-nil _
refused_text R.TooManyNodes list = append-nil _
refused_text (R.ShortList n) list = append-nil _
refused_text R.NothingHeld list = append-nil _

pub refused_few : (answer : Result WindowFound Refusal) (list : List ℕ) (r : Refusal) (n : ℕ) → answer ≡ Err r → n ≡ refusal_number r → n < 4294967296
    → length (window_text answer list) ≤ 24 + 12 * length list
refused_few answer list r n e f h = rw (e, refused_text, ← f) (omega (arith, refusal_few 83 n h))
