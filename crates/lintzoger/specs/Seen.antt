-- What the caller of a call for C sees: the number that it returned, and those values in the caller's places that go
-- with the number. A refused call stores nothing, but for the matches of 9.
-- docs/RULES.md 7.6
use Rattle.std.specs.Prelude.{ℕ, cond, [], ◌∷◌, eqb}
use Rattle.answers.specs.declared.reply.Reply.{Reply}

-- an insertion: the entries held and the cells removed
abbrev pub insert_seen : ℕ → ℕ → ℕ → Reply
insert_seen number held removed = record { number = number; values = cond (eqb number 0) (held ∷ removed ∷ []) [] }

-- a removal or a clear: the entries held
abbrev pub change_seen : ℕ → ℕ → Reply
change_seen number held = record { number = number; values = cond (eqb number 0) (held ∷ []) [] }

-- a point query: whether the cell is held, the visits, and the tag if it is held
abbrev pub point_seen : ℕ → ℕ → ℕ → ℕ → Reply
point_seen number held visits tag = record {
  number = number;
  values = cond (eqb number 0) (cond (eqb held 0) (held ∷ visits ∷ []) (held ∷ visits ∷ tag ∷ [])) [];
}

-- a window query: the matches and the visits; after 9 the matches
abbrev pub window_seen : ℕ → ℕ → ℕ → Reply
window_seen number matches visits = record {
  number = number;
  values = cond (eqb number 0) (matches ∷ visits ∷ []) (cond (eqb number 9) (matches ∷ []) []);
}

-- a nearest query: the entry's x, y and tag, the squared distance, and the visits
abbrev pub nearest_seen : ℕ → ℕ → ℕ → ℕ → ℕ → ℕ → Reply
nearest_seen number x y tag distance visits = record {
  number = number;
  values = cond (eqb number 0) (x ∷ y ∷ tag ∷ distance ∷ visits ∷ []) [];
}

-- an emptiness query: 1 or 0, and the visits
abbrev pub empty_seen : ℕ → ℕ → ℕ → Reply
empty_seen number empty visits = record { number = number; values = cond (eqb number 0) (empty ∷ visits ∷ []) [] }
