-- Texts put behind others: the digits of a number, fields and lines.
use Rattle.std.proofs.Common.{◌≡◌, ℕ, zero, suc, ◌+◌, ◌*◌, ◌/◌, ◌%◌, ◌^◌, ◌≤◌, ◌<◌, List, [], ◌∷◌, ◌++◌, length, get_or, take, refl, sym, ◌∙◌, arith, add-one, append_assoc, length-append}
use native.Mathlib.Nat.{pow-suc, div-lt_iff_lt-mul}
use native.Mathlib.Decide.{dec_lt}
use borrow.Author.Tests.{lt-ltb, le-ltb}
use lib.Seq.{take-suc}
use Rattle.std.specs.List.{flat_map}
use Rattle.std.proofs.lemmas.List.{flat_map_more, take_all}
use Rattle.std.proofs.lemmas.List.Folds.{length-flat_map-take}
use Rattle.commands.specs.declared.output.Output.{Output}
use Rattle.commands.specs.Text.{digits_of, number_text, field_text, line_text, refusal_text}
use Rattle.commands.specs.Output.{HasRoom, Appended}

-- one text, and then another
pub append_more : (a b c : Output) (s t : List ℕ) → Appended a s b → Appended b t c → Appended a (s ++ t) c
append_more a b c s t v w = record {
  bytes = w.bytes ∙ rw (v.bytes, append_assoc);
  next_is = rw length-append (omega (arith, v.next_is, w.next_is));
  same_length = w.same_length ∙ v.same_length;
  same_slice = w.same_slice ∙ v.same_slice;
}

-- the room behind a text
pub room_more : (a b : Output) (s : List ℕ) (n : ℕ) → Appended a s b → HasRoom a (length s + n) → HasRoom b n
room_more a b s n v h = omega (arith, v.next_is, v.same_length)

-- digits
digits_short : (k v : ℕ) → v < 10 → digits_of (suc k) v ≡ (48 + v) ∷ []
unfolding digits_of
digits_short k v h = simp (lt-ltb v 10 h)

digits_long : (k v : ℕ) → 10 ≤ v → digits_of (suc k) v ≡ digits_of k (v / 10) ++ ((48 + v % 10) ∷ [])
unfolding digits_of
digits_long k v h = simp (le-ltb v 10 h)

tenth : (k v : ℕ) → v < 10 ^ suc k → v / 10 < 10 ^ k
tenth k v h =
    let z : 0 < 10 = omega arith in
    let a : v < 10 ^ k * 10 = rw pow-suc at h in
    (div-lt_iff_lt-mul z).1 a

-- a number below 10 ^ (k + 1) has the same digits wherever at least k + 1 are allowed
digits_same : (k j v : ℕ) → v < 10 ^ suc k → suc k ≤ j → digits_of j v ≡ digits_of (suc k) v
digits_same k zero v h l = absurd (omega arith)
digits_same zero (suc j) v h l = digits_short j v (omega arith) ∙ sym (digits_short 0 v (omega arith))
digits_same (suc k) (suc j) v h l = go (dec_lt v 10) (digits_same k j (v / 10) (tenth (suc k) v h) (omega arith))
  where
    go : Dec (v < 10) → digits_of j (v / 10) ≡ digits_of (suc k) (v / 10) → digits_of (suc j) v ≡ digits_of (suc (suc k)) v
    go (yes s) ih = digits_short j v s ∙ sym (digits_short (suc k) v s)
    go (no s) ih =
        let g : 10 ≤ v = omega arith in
        digits_long j v g ∙ (rw ih (sym (digits_long (suc k) v g)))

digits_none : (v : ℕ) → length (digits_of zero v) ≡ 0
unfolding digits_of
digits_none v = refl

digits_few : (k v : ℕ) → length (digits_of k v) ≤ k
digits_few zero v = omega (arith, digits_none v)
digits_few (suc k) v = go (dec_lt v 10) (digits_few k (v / 10))
  where
    go : Dec (v < 10) → length (digits_of k (v / 10)) ≤ k → length (digits_of (suc k) v) ≤ suc k
    go (yes s) ih = rw (digits_short k v s) (omega arith)
    go (no s) ih =
        let g : 10 ≤ v = omega arith in
        rw (digits_long k v g, length-append) (omega arith)

-- a number below 10 ^ (k + 1) has at most k + 1 digits
digits_within : (k j v : ℕ) → v < 10 ^ suc k → suc k ≤ j → length (digits_of j v) ≤ suc k
digits_within k j v h l = rw (digits_same k j v h l) (digits_few (suc k) v)

-- a number of 64 bits, or fewer
module _ (v : ℕ) where
  pub number_few : length (number_text v) ≤ 20
  unfolding number_text
  number_few = digits_few 20 v

  pub number_digit : v < 10 → number_text v ≡ (48 + v) ∷ []
  unfolding number_text
  number_digit h = digits_short 19 v h

  pub number_more : v < 18446744073709551616 → 10 ≤ v → number_text v ≡ number_text (v / 10) ++ ((48 + v % 10) ∷ [])
  unfolding number_text
  number_more f h =
      let a : v / 10 < 10 ^ 19 = tenth 19 v (omega arith) in
      digits_long 19 v h ∙ rw (digits_same 18 20 (v / 10) a (omega arith))

  -- a number of 32 bits
  pub number_short : v < 4294967296 → length (number_text v) ≤ 10
  unfolding number_text
  number_short f = digits_within 9 20 v (omega arith) (omega arith)

-- one digit, or the digits of the tenth and then the last
module _ (a : Output) (v : ℕ) where
  pub room_digit : v < 10 → HasRoom a (length (number_text v)) → HasRoom a 1
  room_digit s h = rw (number_digit v s) at h

  module _ (f : v < 18446744073709551616) (g : 10 ≤ v) where
    room_last : HasRoom a (length (number_text v)) → HasRoom a (length (number_text (v / 10)) + 1)
    room_last h = let l : length (number_text v) ≡ length (number_text (v / 10)) + 1 = rw (number_more v f g, length-append) in omega arith

    pub room_tenth : HasRoom a (length (number_text v)) → HasRoom a (length (number_text (v / 10)))
    room_tenth h = let r = room_last h in omega arith

    module _ (b : Output) (w : Appended a (number_text (v / 10)) b) where
      pub room_digit_more : HasRoom a (length (number_text v)) → HasRoom b 1
      room_digit_more h = room_more a b (number_text (v / 10)) 1 w (room_last h)

      pub put_last : (c : Output) → Appended b ((48 + v % 10) ∷ []) c → Appended a (number_text v) c
      put_last c x = rw (number_more v f g) (append_more a b c _ _ w x)

-- a line: its letter, its fields one after another, and its line feed
module _ (a : Output) (letter : ℕ) (vs : List ℕ) where
  -- The letter and the first i fields are put.
  abbrev pub LineSoFar : ℕ → Output → Type 0
  LineSoFar i b = Appended a (letter ∷ flat_map field_text (take i vs)) b

  line_length : length (line_text letter vs) ≡ length (flat_map field_text vs) + 2
  unfolding line_text
  line_length = rw length-append (omega arith)

  pub room_letter : HasRoom a (length (line_text letter vs)) → HasRoom a 1
  room_letter h = omega (arith, line_length)

  module _ (b : Output) (i : ℕ) (v : LineSoFar i b) where
    pub room_field : i < length vs → HasRoom a (length (line_text letter vs)) → HasRoom b (length (field_text (get_or vs i 0)))
    room_field h r = room_more a b _ _ v (omega (arith, length-flat_map-take field_text vs i 0 h, line_length))

    pub line_more : (c : Output) → i < length vs → Appended b (field_text (get_or vs i 0)) c → LineSoFar (i + 1) c
    line_more c h w = rw (add-one, take-suc vs i 0 h, ← (flat_map_more field_text (letter ∷ []) (take i vs) (get_or vs i 0))) (append_more a b c _ _ v w)

    pub room_feed : length vs ≤ i → HasRoom a (length (line_text letter vs)) → HasRoom b 1
    room_feed h r = room_more a b _ 1 (rw (take_all i vs h) at v) (omega (arith, line_length))

    pub line_end : (c : Output) → length vs ≤ i → Appended b (10 ∷ []) c → Appended a (line_text letter vs) c
    unfolding line_text
    line_end c h w = append_more a b c _ _ (rw (take_all i vs h) at v) w

pub put_refusal : (letter m n : ℕ) (a b c d e f : Output) → m ≡ n → Appended a (letter ∷ []) b → Appended b (32 ∷ []) c → Appended c (33 ∷ []) d
    → Appended d (field_text m) e → Appended e (10 ∷ []) f → Appended a (refusal_text letter n) f
unfolding refusal_text
put_refusal letter m n a b c d e f q s t u v w =
    rw (sym q) (append_more a e f _ _ (append_more a d e _ _ (append_more a c d _ _ (append_more a b c _ _ s t) u) v) w)

-- the lengths of fields and lines
field_few : (v : ℕ) → v < 4294967296 → length (field_text v) ≤ 11
unfolding field_text
field_few v h = omega (arith, number_short v h)

field_long : (v : ℕ) → length (field_text v) ≤ 21
unfolding field_text
field_long v = omega (arith, number_few v)

zero_few : length (field_text 0) ≤ 2
unfolding field_text number_text digits_of
zero_few = omega arith

module _ (letter : ℕ) where
  line_none : length (line_text letter []) ≡ 2
  unfolding line_text
  line_none = refl

  line_cons : (v : ℕ) (vs : List ℕ) → length (line_text letter (v ∷ vs)) ≡ length (field_text v) + length (line_text letter vs)
  unfolding line_text
  line_cons v vs = rw (length-append, length-append, length-append) (omega arith)

  pub line_two_few : (v w : ℕ) → v < 4294967296 → w < 4294967296 → length (line_text letter (v ∷ w ∷ [])) ≤ 24
  line_two_few v w f g = rw (line_cons, line_cons) (omega (arith, line_none, field_few v f, field_few w g))

  pub line_three_few : (v w x : ℕ) → v < 4294967296 → w < 4294967296 → x < 4294967296 → length (line_text letter (v ∷ w ∷ x ∷ [])) ≤ 35
  line_three_few v w x f g h = rw (line_cons, line_cons, line_cons) (omega (arith, line_none, field_few v f, field_few w g, field_few x h))

  -- an accepted insertion's line, whose last number has 64 bits
  pub line_long_few : (w x : ℕ) → w < 4294967296 → length (line_text letter (0 ∷ w ∷ x ∷ [])) ≤ 36
  line_long_few w x g = rw (line_cons, line_cons, line_cons) (omega (arith, line_none, zero_few, field_few w g, field_long x))

  pub refusal_few : (n : ℕ) → n < 4294967296 → length (refusal_text letter n) ≤ 15
  unfolding refusal_text
  refusal_few n h = rw length-append (omega (arith, field_few n h))

pub ruleset few_bytes = (line_two_few, line_three_few, line_long_few, refusal_few)
