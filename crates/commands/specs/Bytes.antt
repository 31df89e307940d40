-- The bytes of the lines, in ASCII.
use Rattle.std.specs.Prelude.{ℕ}

abbrev pub line_feed : ℕ
line_feed = 10

abbrev pub space : ℕ
space = 32

abbrev pub exclamation_mark : ℕ
exclamation_mark = 33

abbrev pub digit_zero : ℕ
digit_zero = 48

abbrev pub digit_nine : ℕ
digit_nine = 57

abbrev pub question_mark : ℕ
question_mark = 63

abbrev pub letter_c : ℕ
letter_c = 67

abbrev pub letter_e : ℕ
letter_e = 69

abbrev pub letter_i : ℕ
letter_i = 73

abbrev pub letter_p : ℕ
letter_p = 80

abbrev pub letter_r : ℕ
letter_r = 82

abbrev pub letter_s : ℕ
letter_s = 83
