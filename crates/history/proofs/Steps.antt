-- One call that kept its contract, on a memory that holds an index: it answered as document 01 defines, and index and record go on together.
use Prim.Native.Nat.{ℕ}
use mathlib.Core.Bool.{Bool, true, false, cond, true≢false}
use mathlib.Core.Option.{some}
use mathlib.Core.Path.{◌≡◌, refl, sym, ap, ◌∙◌, subst}
use lib.Dec.{eqb}
use lib.ListN.{length}
use Rattle.geometry.specs.declared.rect.Cell.{Cell}
use Rattle.geometry.specs.declared.rect.Rect.{Rect}
use Rattle.tree.specs.Calls.{insert_call, remove_call, clear_call, point_call, window_call, nearest_call, empty_call, answer, after}
use Rattle.plane.specs.Lines.{CellEntry}
use Rattle.plane.specs.Fanout.{fanout, PlaneIndex}
use Rattle.memory.specs.Reading.{reading}
use Rattle.answers.specs.Changes.{InsertMemory, RemoveMemory}
use Rattle.answers.specs.declared.reply.Reply.{Reply}
use Rattle.answers.specs.Numbers.{insert_reply, remove_reply, window_reply}
use Rattle.history.specs.Calls.{IndexCall, Performed, accepted, is_change}
use Rattle.history.specs.Contract.{InsertByContract, RemoveByContract, ClearByContract, PointByContract, WindowByContract, NearestByContract, EmptyByContract, ByContractOf, ByContract}
use Rattle.history.specs.Defined.{early, reply_of, reply_on, index_after, lent_after, AsDefined}
use Rattle.history.proofs.Answers.{Holds, insert_reply_lem, remove_reply_lem, clear_reply_lem, point_reply_lem, window_reply_lem, nearest_reply_lem, empty_reply_lem}
use Rattle.history.proofs.Effects.{insert_refused, work_at_exit_lem, remove_refused, insert_reads, remove_reads, clear_length, clear_reads, window_at_exit}

same : {A : Type 0} (b : Bool) (x : A) → x ≡ cond b x x
same true x = refl
same false x = refl

clear_accepted : (N : ℕ) (i : PlaneIndex) (len : ℕ) → accepted (reply_on N i clear_call len) ≡ true
unfolding reply_on early reply_of answer
clear_accepted N i len = refl

-- What a call on a memory that holds the index i comes to.
pub record Stepped (N : ℕ) (i : PlaneIndex) (k : IndexCall) (d : Performed) : Type 0 where
  pub answer : d.reply ≡ reply_on N i k (length d.lent)
  pub leaves : reading fanout d.after ≡ some (index_after N i k (length d.lent))
  pub same_length : length d.after ≡ length d.before
  pub refused : accepted d.reply ≡ false → d.after ≡ d.before
  pub query : is_change k ≡ false → d.after ≡ d.before
  pub list : d.at_exit ≡ lent_after i k d.reply.number d.lent

module _ (N : ℕ) (i : PlaneIndex) (d : Performed) (h : Holds N d.before i) where
  insert_stepped : (e : CellEntry) → InsertByContract e d → Stepped N i (insert_call e) d
  insert_stepped e p =
      let a = p.contract.answer in
      record {
        answer = p.reply ∙ ap insert_reply a ∙ insert_reply_lem N d.before i h (length d.lent) e;
        leaves = insert_reads N d.before i h (length d.lent) e d.after (subst (λ r. InsertMemory r d.before e d.after) a p.contract.memory);
        same_length = p.contract.memory_length;
        refused = λ f. insert_refused p.result d.before d.after e p.contract.memory (ap accepted (sym p.reply) ∙ f);
        query = λ f. absurd (true≢false f);
        list = p.contract.work ∙ work_at_exit_lem p.result d.lent ∙ rw p.reply (unfold lent_after in refl);
      }

  remove_stepped : (c : Cell) → RemoveByContract c d → Stepped N i (remove_call c) d
  unfolding lent_after
  remove_stepped c p =
      let a = p.contract.answer in
      record {
        answer = p.reply ∙ ap remove_reply a ∙ remove_reply_lem N d.before i h (length d.lent) c;
        leaves = remove_reads N d.before i h (length d.lent) c d.after (subst (λ r. RemoveMemory r d.before c d.after) a p.contract.memory);
        same_length = p.contract.memory_length;
        refused = λ f. remove_refused p.result d.before d.after c p.contract.memory (ap accepted (sym p.reply) ∙ f);
        query = λ f. absurd (true≢false f);
        list = p.list;
      }

  clear_stepped : ClearByContract d → Stepped N i clear_call d
  unfolding lent_after
  clear_stepped p =
      let t : d.reply ≡ reply_on N i clear_call (length d.lent) = p.reply ∙ clear_reply_lem N d.before i h (length d.lent) in
      record {
        answer = t;
        leaves = ap (reading fanout) p.memory ∙ clear_reads N d.before i h (length d.lent);
        same_length = ap length p.memory ∙ clear_length N d.before i h;
        refused = λ f. absurd (true≢false (sym (clear_accepted N i (length d.lent)) ∙ ap accepted (sym t) ∙ f));
        query = λ f. absurd (true≢false f);
        list = p.list;
      }

  point_stepped : (c : Cell) → PointByContract c d → Stepped N i (point_call c) d
  unfolding lent_after index_after after
  point_stepped c p = record {
    answer = p.reply ∙ point_reply_lem N d.before i h (length d.lent) c;
    leaves = ap (reading fanout) p.memory ∙ h.reads ∙ ap some (same (eqb (early N (point_call c) (length d.lent)) 0) i);
    same_length = ap length p.memory;
    refused = λ f. p.memory;
    query = λ f. p.memory;
    list = p.list;
  }

  window_stepped : (w : Rect) → WindowByContract w d → Stepped N i (window_call w) d
  unfolding index_after after
  window_stepped w p =
      let t = p.reply ∙ ap window_reply p.contract.answer in
      record {
        answer = t ∙ window_reply_lem N d.before i h (length d.lent) w;
        leaves = ap (reading fanout) p.memory ∙ h.reads ∙ ap some (same (eqb (early N (window_call w) (length d.lent)) 0) i);
        same_length = ap length p.memory;
        refused = λ f. p.memory;
        query = λ f. p.memory;
        list = p.contract.list ∙ window_at_exit N d.before i h w d.lent ∙ ap (λ (x : Reply). lent_after i (window_call w) x.number d.lent) (sym t);
      }

  nearest_stepped : (c : Cell) → NearestByContract c d → Stepped N i (nearest_call c) d
  unfolding lent_after index_after after
  nearest_stepped c p = record {
    answer = p.reply ∙ nearest_reply_lem N d.before i h (length d.lent) c;
    leaves = ap (reading fanout) p.memory ∙ h.reads ∙ ap some (same (eqb (early N (nearest_call c) (length d.lent)) 0) i);
    same_length = ap length p.memory;
    refused = λ f. p.memory;
    query = λ f. p.memory;
    list = p.list;
  }

  empty_stepped : (w : Rect) → EmptyByContract w d → Stepped N i (empty_call w) d
  unfolding lent_after index_after after
  empty_stepped w p = record {
    answer = p.reply ∙ empty_reply_lem N d.before i h (length d.lent) w;
    leaves =
        ap (reading fanout) p.memory ∙ h.reads ∙ ap some (same (eqb (early N (empty_call w) (length d.lent)) 0) i);
    same_length = ap length p.memory;
    refused = λ f. p.memory;
    query = λ f. p.memory;
    list = p.list;
  }

  stepped_by : (k : IndexCall) → ByContractOf k d → Stepped N i k d
  stepped_by (insert_call e) p = insert_stepped e p
  stepped_by (remove_call c) p = remove_stepped c p
  stepped_by clear_call p = clear_stepped p
  stepped_by (point_call c) p = point_stepped c p
  stepped_by (window_call w) p = window_stepped w p
  stepped_by (nearest_call c) p = nearest_stepped c p
  stepped_by (empty_call w) p = empty_stepped w p

  -- a call that kept its contract
  pub stepped : ByContract d → Stepped N i d.call d
  stepped p = stepped_by d.call p

  -- accepted, refused and answered as document 01 defines
  pub as_defined : Stepped N i d.call d → AsDefined N d
  as_defined s = record {
    index = i;
    parts = h.length_is;
    handed = h.reads;
    answer = s.answer;
    leaves = s.leaves;
    refused = s.refused;
    query = s.query;
    list = s.list;
  }

  -- the memory left holds the index after
  pub holds_after : Stepped N i d.call d → Holds N d.after (index_after N i d.call (length d.lent))
  holds_after s = record { some_parts = h.some_parts; few_parts = h.few_parts; length_is = s.same_length ∙ h.length_is; reads = s.leaves }
