-- The forms for C: the number and the values of each answer.
use Prim.Native.Nat.{ℕ}
use mathlib.Core.List.{List, []}
use mathlib.Core.Bool.{Bool, true, false, cond}
use mir.Val.{bool_byte}
use native.Mathlib.Omega.{arith}
use mathlib.Core.Path.{◌≡◌, refl, ap, ◌∙◌, subst}
use lib.ListN.{length}
use Rattle.geometry.specs.declared.rect.Cell.{Cell}
use Rattle.geometry.specs.declared.rect.Rect.{Rect}
use Rattle.plane.specs.Lines.{CellEntry}
use Rattle.answers.specs.declared.answer.Inserted.{Inserted}
use Rattle.std.specs.Prelude.{Option, Some, None, Result, Ok, Err, is_some}
use Rattle.answers.specs.declared.answer.Refusal.{Refusal}
use Rattle.answers.specs.declared.answer.Refusal.TheVariants as R
use Rattle.answers.specs.declared.answer.PointFound.{PointFound}
use Rattle.answers.specs.declared.answer.WindowFound.{WindowFound}
use Rattle.answers.specs.declared.answer.NearestFound.{NearestFound}
use Rattle.answers.specs.declared.answer.EmptyFound.{EmptyFound}
use Rattle.answers.specs.Numbers.{refusal_number, matches_told, insert_reply, remove_reply}
use Rattle.answers.specs.Changes.{InsertMemory, work_after, InsertCall, RemoveMemory, RemoveCall}
use Rattle.answers.specs.Answers.{clear_answer, cleared, point_answer, window_answer, window_list, nearest_answer, empty_answer}
use Rattle.lintzoger.specs.Exports.{stored, InsertExported, RemoveExported, ClearExported, PointExported, WindowExported, NearestExported, EmptyExported}

-- a refusal but for 9 tells no value
nothing_told : (r : Refusal) → ((k : ℕ) → r ≡ R.ShortList k → ⊥) → matches_told r ≡ []
nothing_told r s = grind arith

-- a Bool as a number
byte_is : (b : Bool) → bool_byte b ≡ cond b 1 0
byte_is true = refl
byte_is false = refl

none_of : (o : Option ℕ) → ((t : ℕ) → o ≡ Some t → ⊥) → o ≡ None
none_of None s = refl
none_of (Some t) s = absurd (s t refl)

module _ (m w : List ℕ) (e : CellEntry) (held removed : ℕ) (m' w' : List ℕ) (a : Result Inserted Refusal)
    (z : InsertCall m w e m' w' a) where
  insert_reply_lem : (n h r : ℕ) → n ≡ (insert_reply a).number → h ≡ stored (insert_reply a) 0 held
      → r ≡ stored (insert_reply a) 1 removed
      → InsertExported m w e held removed n m' w' h r
  insert_reply_lem n h r p q o = record {
    number = p ∙ ap (λ (x : Result Inserted Refusal). (insert_reply x).number) z.answer;
    memory = subst (λ (x : Result Inserted Refusal). InsertMemory x m e m') z.answer z.memory;
    memory_length = z.memory_length;
    work = z.work ∙ ap (λ (x : Result Inserted Refusal). work_after x w) z.answer;
    held_is = q ∙ ap (λ (x : Result Inserted Refusal). stored (insert_reply x) 0 held) z.answer;
    removed_is = o ∙ ap (λ (x : Result Inserted Refusal). stored (insert_reply x) 1 removed) z.answer;
  }

  pub insert_accepted : (done : Inserted) → a ≡ Ok done → InsertExported m w e held removed 0 m' w' done.held done.removed
  insert_accepted done f = insert_reply_lem 0 done.held done.removed (rw f) (rw f) (rw f)

  pub insert_refusal : (r : Refusal) (n : ℕ) → a ≡ Err r → n ≡ refusal_number r → InsertExported m w e held removed n m' w' held removed
  insert_refusal r n f g = insert_reply_lem n held removed (rw f g) (rw f) (rw f)

module _ (m : List ℕ) (c : Cell) (held : ℕ) (m' : List ℕ) (a : Result ℕ Refusal) (z : RemoveCall m c m' a) where
  remove_reply_lem : (n h : ℕ) → n ≡ (remove_reply a).number → h ≡ stored (remove_reply a) 0 held → RemoveExported m c held n m' h
  remove_reply_lem n h p q = record {
    number = p ∙ ap (λ (x : Result ℕ Refusal). (remove_reply x).number) z.answer;
    memory = subst (λ (x : Result ℕ Refusal). RemoveMemory x m c m') z.answer z.memory;
    memory_length = z.memory_length;
    held_is = q ∙ ap (λ (x : Result ℕ Refusal). stored (remove_reply x) 0 held) z.answer;
  }

  pub remove_accepted : (n : ℕ) → a ≡ Ok n → RemoveExported m c held 0 m' n
  remove_accepted n f = remove_reply_lem 0 n (rw f) (rw f)

  pub remove_refusal : (r : Refusal) (n : ℕ) → a ≡ Err r → n ≡ refusal_number r → RemoveExported m c held n m' held
  remove_refusal r n f g = remove_reply_lem n held (rw f g) (rw f)

module _ (m : List ℕ) (held : ℕ) (m' : List ℕ) (a : Result ℕ Refusal) (e : a ≡ clear_answer m) (g : m' ≡ cleared m) where
  pub clear_accepted : (n : ℕ) → a ≡ Ok n → ClearExported m held 0 m' n
  clear_accepted n f = record { number = rw (← e, f); memory = g; held_is = rw (← e, f) }

  pub clear_refusal : (r : Refusal) (n : ℕ) → a ≡ Err r → n ≡ refusal_number r → ClearExported m held n m' held
  clear_refusal r n f h = record { number = rw (← e, f) h; memory = g; held_is = rw (← e, f) }

module _ (m : List ℕ) (c : Cell) (held visits tag : ℕ) (a : Result PointFound Refusal) (e : a ≡ point_answer m c) where
  pub point_held : (d : PointFound) (b : Bool) (t : ℕ) → a ≡ Ok d → d.tag ≡ Some t → b ≡ is_some d.tag
      → PointExported m c held visits tag 0 (bool_byte b) d.visits t
  point_held d b t f g k =
      let h : b ≡ true = rw g at k in
      record {
        number = rw (← e, f);
        held_is = rw (← e, f, g, h);
        visits_is = rw (← e, f, g);
        tag_is = rw (← e, f, g);
      }

  pub point_not_held : (d : PointFound) (b : Bool) → a ≡ Ok d → ((t : ℕ) → d.tag ≡ Some t → ⊥) → b ≡ is_some d.tag
      → PointExported m c held visits tag 0 (bool_byte b) d.visits tag
  point_not_held d b f s k =
      let g : d.tag ≡ None = none_of d.tag s in
      let h : b ≡ false = rw g at k in
      record {
        number = rw (← e, f);
        held_is = rw (← e, f, g, h);
        visits_is = rw (← e, f, g);
        tag_is = rw (← e, f, g);
      }

  pub point_refusal : (r : Refusal) (n : ℕ) → a ≡ Err r → n ≡ refusal_number r → PointExported m c held visits tag n held visits tag
  point_refusal r n f g = record {
    number = rw (← e, f) g;
    held_is = rw (← e, f);
    visits_is = rw (← e, f);
    tag_is = rw (← e, f);
  }

module _ (m : List ℕ) (w : Rect) (list : List ℕ) (matches visits : ℕ) (list' : List ℕ) (a : Result WindowFound Refusal)
    (e : a ≡ window_answer m w (length list)) (g : list' ≡ window_list m w list) where
  pub window_found : (d : WindowFound) → a ≡ Ok d → WindowExported m w list matches visits 0 list' d.matches d.visits
  window_found d f = record { number = rw (← e, f); list_is = g; matches_is = rw (← e, f); visits_is = rw (← e, f) }

  -- r' is the refusal at the return, after the matches are stored
  module _ (r r' : Refusal) (n k : ℕ) (f : a ≡ Err r) (h : n ≡ refusal_number r') where
    pub window_short : (j : ℕ) → r ≡ R.ShortList j → r' ≡ R.ShortList j → k ≡ j → WindowExported m w list matches visits n list' k visits
    window_short j s q t = record {
      number = rw (← e, f, s) (rw q at h);
      list_is = g;
      matches_is = rw (← e, f, s, t);
      visits_is = rw (← e, f, s);
    }

    pub window_refusal : ((j : ℕ) → r ≡ R.ShortList j → ⊥) → r' ≡ r → k ≡ matches → WindowExported m w list matches visits n list' k visits
    window_refusal s q t =
        let none : matches_told r ≡ [] = nothing_told r s in
        record {
          number = rw (← e, f) (rw q at h);
          list_is = g;
          matches_is = rw (← e, f, none, t);
          visits_is = rw (← e, f, none);
        }

module _ (m : List ℕ) (c : Cell) (x y tag distance visits : ℕ) (a : Result NearestFound Refusal) (e : a ≡ nearest_answer m c) where
  pub nearest_found_lem : (d : NearestFound) → a ≡ Ok d → NearestExported m c x y tag distance visits 0 d.x d.y d.tag d.distance d.visits
  nearest_found_lem d f = record {
    number = rw (← e, f);
    near_x_is = rw (← e, f);
    near_y_is = rw (← e, f);
    tag_is = rw (← e, f);
    distance_is = rw (← e, f);
    visits_is = rw (← e, f);
  }

  pub nearest_refusal : (r : Refusal) (n : ℕ) → a ≡ Err r → n ≡ refusal_number r
      → NearestExported m c x y tag distance visits n x y tag distance visits
  nearest_refusal r n f g = record {
    number = rw (← e, f) g;
    near_x_is = rw (← e, f);
    near_y_is = rw (← e, f);
    tag_is = rw (← e, f);
    distance_is = rw (← e, f);
    visits_is = rw (← e, f);
  }

module _ (m : List ℕ) (w : Rect) (empty visits : ℕ) (a : Result EmptyFound Refusal) (e : a ≡ empty_answer m w) where
  pub empty_found : (d : EmptyFound) → a ≡ Ok d → EmptyExported m w empty visits 0 (bool_byte d.empty) d.visits
  empty_found d f = record { number = rw (← e, f); empty_is = rw (← e, f) (byte_is d.empty); visits_is = rw (← e, f) }

  pub empty_refusal : (r : Refusal) (n : ℕ) → a ≡ Err r → n ≡ refusal_number r → EmptyExported m w empty visits n empty visits
  empty_refusal r n f g = record { number = rw (← e, f) g; empty_is = rw (← e, f); visits_is = rw (← e, f) }
