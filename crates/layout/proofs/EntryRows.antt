-- A leaf's entries, one after another.
use mathlib.Core.Path.{◌≡◌, ◌∙◌}
use mathlib.Core.List.{List, [], ◌∷◌, ◌++◌}
use Prim.Native.Nat.{ℕ, zero, suc, ◌+◌, ◌<◌, ◌≤◌}
use native.Mathlib.Omega.{arith}
use native.Mathlib.Decide.{dec_lt}
use native.Mathlib.Numerals.{add-one}
use lib.ListN.{length, drop, get_or, drop_of_length-le, get_or-append}
use lib.Seq.{drop-cons, get_or_at}
use Rattle.memory.specs.Layout.{entry_in, entries_in}
use Rattle.memory.proofs.ReadingLaws.{entries_length}
use Rattle.memory.proofs.PartImage.{no_entry}

pub entries_at_lem : (p : List ℕ) (n i : ℕ) → i < n → get_or (entries_in p n) i no_entry ≡ entry_in p i
unfolding entries_in
entries_at_lem p zero i h = absurd (omega arith)
entries_at_lem p (suc n) i h = go (dec_lt i n) (entries_at_lem p n i)
  where
    go : Dec (i < n) → (i < n → get_or (entries_in p n) i no_entry ≡ entry_in p i) → get_or (entries_in p n ++ (entry_in p n ∷ [])) i no_entry ≡ entry_in p i
    go (yes k) ih = get_or-append (entries_in p n) _ no_entry i (let l = entries_length p n in omega arith) ∙ ih k
    go (no k) ih =
        let e : n ≡ i = omega arith in
        rw (← e) (get_or_at (entries_in p n) (entry_in p n) [] no_entry n (entries_length p n))

-- what is left from the i-th entry on
pub entries_next : (p : List ℕ) (n i : ℕ) → i < n → drop i (entries_in p n) ≡ entry_in p i ∷ drop (i + 1) (entries_in p n)
entries_next p n i h =
    let a = entries_length p n in
    let k : i < length (entries_in p n) = omega arith in
    rw (add-one, drop-cons (entries_in p n) i no_entry k, entries_at_lem p n i h)

pub entries_end : (p : List ℕ) (n i : ℕ) → n ≤ i → drop i (entries_in p n) ≡ []
entries_end p n i h =
    let a = entries_length p n in
    let k : length (entries_in p n) ≤ i = omega arith in
    drop_of_length-le (entries_in p n) k
