-- Request A.14 of lists of calls that kept their contracts: two lists from fresh memories whose records are
-- rearrangements of each other, as those of accepted insertions are.
use Prim.Native.Nat.{ℕ, ◌*◌, ◌≤◌}
use mathlib.Core.Bool.{true}
use mathlib.Core.List.{List, [], ◌∷◌, ◌++◌, map, append-nil, append_assoc, Permᴰ}
use mathlib.Core.Path.{◌≡◌, sym, ap, ◌∙◌, subst}
use native.Mathlib.Omega.{arith}
use lib.ListN.{length, drop}
use Rattle.geometry.specs.declared.rect.Rect.{Rect}
use Rattle.geometry.specs.Cells.{valid}
use Rattle.tree.specs.Lists.{All}
use Rattle.tree.specs.Tree.{entries}
use Rattle.tree.specs.Calls.{insert_call}
use Rattle.tree.specs.Record.{recorded, record_of}
use Rattle.tree.proofs.Bags.{perm_bag, bag_length}
use Rattle.plane.specs.Lines.{CellEntry}
use Rattle.plane.specs.Fanout.{index_space}
use Rattle.answers.specs.Listing.{list_width}
use Rattle.answers.specs.Answers.{window_answer}
use Rattle.answers.specs.Numbers.{window_reply}
use Rattle.history.specs.Calls.{Performed, accepted, record_from}
use Rattle.history.specs.Contract.{WindowByContract, ByContractOf, ByContract}
use Rattle.history.specs.Claim.{HistoryClaim}
use Rattle.history.specs.SameAnswers.{FromFresh, Entered, SameAnswer}
use Rattle.history.proofs.Windows.{window_accepts}
use Rattle.history.proofs.History.{kept_history}
use Rattle.history.proofs.SameAnswers.{same_by}

-- the claim about such a list
claim : (N : ℕ) (ds : List Performed) (m : List ℕ) → FromFresh N ds m → All ByContract ds → HistoryClaim N ds m
claim N ds m l p = kept_history N l.some_parts l.few_parts ds m p l.linked

-- Two lists of any calls whose records are rearrangements of each other: queries of what they left are answered alike.
pub kept_same : (N N' : ℕ) (ds ds' : List Performed) (m m' : List ℕ)
    → FromFresh N ds m → All ByContract ds → FromFresh N' ds' m' → All ByContract ds'
    → Permᴰ (record_from [] ds) (record_from [] ds')
    → (d d' : Performed) → ByContract d → ByContract d' → d.before ≡ m → d'.before ≡ m' → d.call ≡ d'.call → SameAnswer d d'
kept_same N N' ds ds' m m' l p l' p' r d d' k k' h h' e =
    let x = claim N ds m l p in
    let y = claim N' ds' m' l' p' in
    same_by m m' x.index y.index x.reads y.reads
    (λ q. x.entries_same q ∙ perm_bag r q ∙ sym (y.entries_same q))
    d.call d d' k (subst (λ c. ByContractOf c d') (sym e) k') h h'

-- A window query of what a list of calls left is accepted if the window is valid and the result list has room for every
-- entry of the record, three numbers each.
pub kept_room : (N : ℕ) (ds : List Performed) (m : List ℕ) → FromFresh N ds m → All ByContract ds
    → (w : Rect) (d : Performed) → WindowByContract w d → d.before ≡ m
    → valid w ≡ true → list_width * length (record_from [] ds) ≤ length d.lent → accepted d.reply ≡ true
kept_room N ds m l p w d k h g r =
    let x = claim N ds m l p in
    let n = bag_length (entries index_space x.index) (record_from [] ds) x.entries_same in
    let t : d.reply ≡ window_reply (window_answer m w (length d.lent)) =
    k.reply ∙ ap window_reply k.contract.answer ∙ ap (λ y. window_reply (window_answer y w (length d.lent))) h in
    ap accepted t ∙ window_accepts m w x.index x.reads (length d.lent) g (omega arith)

-- The record after accepted insertions: their entries, in order.
fed_entries : (r : List CellEntry) (ds : List Performed) (es : List CellEntry) → map (λ d. d.call) ds ≡ map insert_call es
    → All (λ d. accepted d.reply ≡ true) ds → record_from r ds ≡ r ++ es
unfolding All record_of recorded
fed_entries r [] [] c h = sym (append-nil r)
fed_entries r [] (e ∷ es) c h = let n : 0 ≡ length (map insert_call (e ∷ es)) = ap length c in absurd (omega arith)
fed_entries r (d ∷ ds) [] c h = let n : length (map (λ x. x.call) (d ∷ ds)) ≡ 0 = ap length c in absurd (omega arith)
fed_entries r (d ∷ ds) (e ∷ es) c h =
    let k : d.call ≡ insert_call e = cc in
    rw (k, h.0)
    (fed_entries (r ++ (e ∷ [])) ds es (ap (λ l. drop 1 l) c) h.1 ∙ append_assoc r (e ∷ []) es)

pub entered_record : (ds : List Performed) (es : List CellEntry) → Entered ds es → record_from [] ds ≡ es
entered_record ds es h = fed_entries [] ds es h.calls h.each_accepted

-- Two lists of insertions, all accepted, that are rearrangements of each other.
module _ (N N' : ℕ) (ds ds' : List Performed) (m m' : List ℕ) (es es' : List CellEntry)
    (l : FromFresh N ds m) (p : All ByContract ds) (x : Entered ds es)
    (l' : FromFresh N' ds' m') (p' : All ByContract ds') (x' : Entered ds' es') (r : Permᴰ es es') where
  pub kept_same_points : (d d' : Performed) → ByContract d → ByContract d' → d.before ≡ m → d'.before ≡ m' → d.call ≡ d'.call
      → SameAnswer d d'
  kept_same_points = kept_same N N' ds ds' m m' l p l' p' (rw (entered_record ds es x, entered_record ds' es' x') r)
