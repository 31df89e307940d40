-- What is written one after another, and what is taken from a reader one after another.
use Rattle.std.proofs.Common.{ℕ, ◌-◌, List, [], ◌++◌, ◌≡◌, None, Some, length, take, drop, refl, sym, ap, ◌∙◌, subst, append_assoc, append-nil, arith, take-append-drop}
use Rattle.std.proofs.lemmas.List.{length-drop, take_all}
use Rattle.std.specs.Io.KnownBytes.{Appends, Consumes, Keeps}
use Rattle.std.specs.declared.option.Option.{Option}
use Rattle.bench.specs.Written.{StartWritten}

pub appends_nil : (a : Option (List ℕ)) → Appends a a []
appends_nil None = tt
appends_nil (Some x) = sym (append-nil x)

pub appends_on : (a b d : Option (List ℕ)) (s t : List ℕ) → Appends a b s → Appends b d t → Appends a d (s ++ t)
appends_on None b d s t p q = tt
appends_on (Some x) None d s t p q = absurd p
appends_on (Some x) (Some y) None s t p q = absurd q
appends_on (Some x) (Some y) (Some z) s t p q = q ∙ ap (λ (l : List ℕ). l ++ t) p ∙ append_assoc x s t

pub appends_kept : (a b d : Option (List ℕ)) (s : List ℕ) → Appends a b s → Keeps b d → Appends a d s
appends_kept None b d s p q = tt
appends_kept (Some x) None d s p q = absurd p
appends_kept (Some x) (Some y) None s p q = absurd q
appends_kept (Some x) (Some y) (Some z) s p q = q ∙ p

pub keeps_same : (a : Option (List ℕ)) → Keeps a a
keeps_same None = tt
keeps_same (Some x) = refl

pub keeps_on : (a b d : Option (List ℕ)) → Keeps a b → Keeps b d → Keeps a d
keeps_on None b d p q = tt
keeps_on (Some x) None d p q = absurd p
keeps_on (Some x) (Some y) None p q = absurd q
keeps_on (Some x) (Some y) (Some z) p q = q ∙ p

pub consumes_kept : (a b d : Option (List ℕ)) (s : List ℕ) → Keeps a b → Consumes b d s → Consumes a d s
consumes_kept None b d s p q = tt
consumes_kept (Some x) None d s p q = absurd p
consumes_kept (Some x) (Some y) None s p q = absurd q
consumes_kept (Some x) (Some y) (Some z) s p q = sym p ∙ q

-- all of a text is a start of it, and so is nothing
pub start_all : (a b : Option (List ℕ)) (s : List ℕ) → Appends a b s → StartWritten a b s
start_all a b s p = record { done = s; rest = []; parts = sym (append-nil s); appended = p }

pub start_none : (a : Option (List ℕ)) (s : List ℕ) → StartWritten a a s
start_none a s = record { done = []; rest = s; parts = refl; appended = appends_nil a }

-- a text, then a start of another
pub start_on : (a b d : Option (List ℕ)) (s t : List ℕ) → Appends a b s → StartWritten b d t → StartWritten a d (s ++ t)
start_on a b d s t p q = record {
  done = s ++ q.done;
  rest = q.rest;
  parts = ap (λ (l : List ℕ). s ++ l) q.parts ∙ sym (append_assoc s q.done q.rest);
  appended = appends_on a b d s q.done p q.appended;
}

pub appends_none : (b d : Option (List ℕ)) → Appends b d [] → Keeps b d
appends_none None d p = tt
appends_none (Some x) None p = absurd p
appends_none (Some x) (Some y) p = p ∙ append-nil x

-- What is written of the text, where the rest of it is still to be written.
pub record Put (a d : Option (List ℕ)) (text rest : List ℕ) : Type 0 where
  pub done : List ℕ
  pub parts : text ≡ done ++ rest
  pub appended : Appends a d done

pub put_none : (a : Option (List ℕ)) (text : List ℕ) → Put a a text text
put_none a text = record { done = []; parts = refl; appended = appends_nil a }

-- one write more: what is behind the n bytes that it took is still to be written
pub put_on : (a b d : Option (List ℕ)) (text rest : List ℕ) (n : ℕ) → Put a b text rest → Appends b d (take n rest)
    → Put a d text (take (length rest - n) (drop n rest))
put_on a b d text rest n p q =
    let e : length (drop n rest) ≡ length rest - n = length-drop n rest in
    let behind : take (length rest - n) (drop n rest) ≡ drop n rest = take_all _ _ (omega arith) in
    record {
      done = p.done ++ take n rest;
      parts = p.parts
          ∙ ap (λ (l : List ℕ). p.done ++ l) (sym (ap (λ (l : List ℕ). take n rest ++ l) behind ∙ take-append-drop n rest))
          ∙ sym (append_assoc p.done (take n rest) _);
      appended = appends_on a b d p.done (take n rest) p.appended q;
    }

pub put_kept : (a b d : Option (List ℕ)) (text rest : List ℕ) → Put a b text rest → Keeps b d → Put a d text rest
put_kept a b d text rest p k = record { done = p.done; parts = p.parts; appended = appends_kept a b d p.done p.appended k }

-- what was written, where a write failed or took nothing, or where the turns are used up
pub put_start : (a b d : Option (List ℕ)) (text rest : List ℕ) → Put a b text rest → Keeps b d → StartWritten a d text
put_start a b d text rest p k = record { done = p.done; rest = rest; parts = p.parts; appended = appends_kept a b d p.done p.appended k }

-- all of it, where none is left
pub put_all : (a b : Option (List ℕ)) (text : List ℕ) → Put a b text [] → Appends a b text
put_all a b text p = subst (Appends a b) (sym (append-nil p.done) ∙ sym p.parts) p.appended
