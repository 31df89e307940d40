-- Demand 3 at the level of trees: every list of calls from the empty index keeps the claim.
use Prim.Native.Nat.{ℕ, ◌+◌, ◌≤◌, suc}
use mathlib.Core.Bool.{Bool, true, false, cond, ◌&&◌}
use mathlib.Core.Path.{◌≡◌, refl, sym, ap, ◌∙◌}
use mathlib.Core.List.{map, List, [], ◌∷◌, ◌++◌}
use mathlib.Core.Option.{Option, none, some}
use lib.ListN.{length}
use native.Mathlib.Omega.{arith}
use Rattle.tree.specs.Lists.{keep, All, count_of, Bag}
use Rattle.tree.specs.Space.{Space}
use Rattle.tree.specs.Nodes.{EntryOf}
use Rattle.tree.specs.Root.{Root}
use Rattle.tree.specs.Tree.{Index, entries, node_count, Sound}
use Rattle.tree.specs.Insert.{Outcome, refused, accepted, insert}
use Rattle.tree.specs.Removed.{removed_total}
use Rattle.tree.specs.Remove.{other, remove}
use Rattle.tree.specs.Query.{of_cell, Window, holds}
use Rattle.tree.specs.Nearest.{nearest, walk}
use Rattle.tree.specs.Calls.{Call, insert_call, remove_call, clear_call, point_call, window_call, nearest_call, empty_call, Answer, refusal, inserted, reports, is_accepted, outcome_answer, outcome_index, insertion, nearest_end, answer, after, after_all, answers}
use Rattle.tree.specs.Record.{recorded, record_of}
use Rattle.tree.specs.Claim.{Reported, ReportedAll, IndexClaim, OnGrid, Claim}
use Rattle.tree.proofs.Counts.{count_of_both, count_of_append, count_of_keep, count_of_every}
use Rattle.tree.proofs.Laws.{Laws, Steps, RootLaws, WindowLaws}
use Rattle.tree.proofs.Insert.{Inserted, insert_accepted}
use Rattle.tree.proofs.RemoveIndex.{remove_entries, remove_nodes, remove_sound}
use Rattle.tree.proofs.Depth.{within_parent, equal_depth, equally_deep}
use Rattle.tree.proofs.Visits.{visits_height}
use Rattle.tree.proofs.NearestLeast.{nearest_is}
use Rattle.tree.proofs.NearestSame.{nearest_same}
use Rattle.tree.proofs.NearestWalk.{walk_nearest, walk_few}
use Rattle.tree.proofs.Emptiness.{empty_exact, empty_few}
use Rattle.tree.proofs.Leaves.{leaves_cover, one_leaf, cell_once}

module _ (S : Space) (W : Laws S) (T : Steps S) (R : Root S) (X : RootLaws S R) (wide : 2 ≤ S.most) (Win : Window S) (N : ℕ) where
  -- What is carried from call to call: sound, with room, and the record's entries.
  pub record State (i : Index S) (r : List (EntryOf S)) : Type 0 where
    pub sound : Sound S R i
    pub room : node_count S i ≤ N
    pub same : Bag (entries S i) r

  -- As many entries as the record is long.
  pub long : (i : Index S) (r : List (EntryOf S)) → State i r → length (entries S i) ≡ length r
  long i r s = sym (count_of_every (entries S i)) ∙ s.same (λ e. true) ∙ count_of_every r

  -- One call: from the index i and the record r to the index j with the answer a.
  pub record Stepped (i : Index S) (r : List (EntryOf S)) (k : Call S Win) (j : Index S) (a : Answer S) : Type 0 where
    pub state : State j (recorded r k (is_accepted a))
    pub report : Reported S a (recorded r k (is_accepted a))

  -- A refused call changes nothing.
  pub refused_step : (i : Index S) (r : List (EntryOf S)) (k : Call S Win) (n : ℕ) → State i r → Stepped i r k i (refusal n)
  unfolding recorded
  refused_step i r (insert_call e) n s = record { state = s; report = tt }
  refused_step i r (remove_call c) n s = record { state = s; report = tt }
  refused_step i r clear_call n s = record { state = s; report = tt }
  refused_step i r (point_call c) n s = record { state = s; report = tt }
  refused_step i r (window_call w) n s = record { state = s; report = tt }
  refused_step i r (nearest_call c) n s = record { state = s; report = tt }
  refused_step i r (empty_call w) n s = record { state = s; report = tt }

  inserted_state : (i j : Index S) (r : List (EntryOf S)) (e : EntryOf S) → State i r → Inserted S W T R X wide N i e j → State j (r ++ (e ∷ []))
  inserted_state i j r e s h = record {
    sound = h.sound;
    room = h.room;
    same = λ q. h.adds q ∙ ap (λ n. n + count_of q (e ∷ [])) (s.same q) ∙ sym (count_of_append q r (e ∷ []));
  }

  removed_state : (i : Index S) (r : List (EntryOf S)) (c : S.Cell) → State i r → State (remove S c i) (keep (other S c) r)
  removed_state i r c s = record {
    sound = remove_sound S W R c i s.sound;
    room = let a = remove_nodes S c i in let b = s.room in omega arith;
    same = λ q. ap (count_of q) (remove_entries S c i) ∙ count_of_keep q (other S c) (entries S i) ∙ s.same (λ e. other S c e && q e) ∙ sym (count_of_keep q (other S c) r);
  }

  insert_step : (i : Index S) (r : List (EntryOf S)) (e : EntryOf S) → S.Real e.cell → State i r → (o : Outcome S) → insertion S R N i e ≡ o → Stepped i r (insert_call e) (outcome_index S i o) (outcome_answer S (λ n. inserted n (removed_total S R i e.cell)) o)
  insert_step i r e on s (refused n) h = refused_step i r (insert_call e) n s
  insert_step i r e on s (accepted j) h = go (holds S e.cell i) refl h
    where
      go : (b : Bool) → holds S e.cell i ≡ b → cond b (refused 5) (insert S R N i e) ≡ accepted j → Stepped i r (insert_call e) j (inserted (length (entries S j)) (removed_total S R i e.cell))
      go true f h = let z : ◌≡◌ {A = ℕ} 0 1 = cc in absurd (omega arith)
      go false f h =
          let t = inserted_state i j r e s (insert_accepted S W T R X wide N i e j h s.sound on f) in
          unfold recorded in record { state = t; report = long j (r ++ (e ∷ [])) t }

  remove_step : (i : Index S) (r : List (EntryOf S)) (c : S.Cell) → State i r → (b : Bool) → Stepped i r (remove_call c) (outcome_index S i (cond b (accepted (remove S c i)) (refused 6))) (outcome_answer S reports (cond b (accepted (remove S c i)) (refused 6)))
  unfolding recorded
  remove_step i r c s true = let t = removed_state i r c s in record { state = t; report = long (remove S c i) (keep (other S c) r) t }
  remove_step i r c s false = refused_step i r (remove_call c) 6 s

  nearest_step : (i : Index S) (r : List (EntryOf S)) (c : S.Cell) → State i r → (b : Option (EntryOf S)) (v : ℕ) → Stepped i r (nearest_call c) i (nearest_end S c b v)
  unfolding recorded
  nearest_step i r c s none v = refused_step i r (nearest_call c) 10 s
  nearest_step i r c s (some e) v = record { state = s; report = tt }

  -- Every call, one step.
  pub call_step : (i : Index S) (r : List (EntryOf S)) (k : Call S Win) → OnGrid S Win k → State i r → Stepped i r k (after S R N Win i k) (answer S R N Win i k)
  unfolding recorded after answer
  call_step i r (insert_call e) on s = insert_step i r e on s (insertion S R N i e) refl
  call_step i r (remove_call c) on s = remove_step i r c s (holds S c i)
  call_step i r clear_call on s = record { state = record { sound = tt; room = omega arith; same = λ q. refl }; report = refl }
  call_step i r (point_call c) on s = record { state = s; report = tt }
  call_step i r (window_call w) on s = record { state = s; report = tt }
  call_step i r (nearest_call c) on s = nearest_step i r c s (nearest S c i) (walk S c i).entered
  call_step i r (empty_call w) on s = record { state = s; report = tt }

  -- A list of calls.
  pub after_state : (i : Index S) (r : List (EntryOf S)) (ks : List (Call S Win)) → All (OnGrid S Win) ks → State i r → State (after_all S R N Win i ks) (record_of r ks (map is_accepted (answers S R N Win i ks)))
  unfolding after_all answers record_of All
  after_state i r [] on s = s
  after_state i r (k ∷ ks) on s =
      after_state (after S R N Win i k) (recorded r k (is_accepted (answer S R N Win i k))) ks on.1 (call_step i r k on.0 s).state

  -- Every reported number is the record's length.
  pub all_reported : (i : Index S) (r : List (EntryOf S)) (ks : List (Call S Win)) → All (OnGrid S Win) ks → State i r → ReportedAll S Win r ks (answers S R N Win i ks)
  unfolding answers ReportedAll All
  all_reported i r [] on s = tt
  all_reported i r (k ∷ ks) on s =
      let t = call_step i r k on.0 s in
      (t.report, all_reported (after S R N Win i k) (recorded r k (is_accepted (answer S R N Win i k))) ks on.1 t.state)

  -- What follows for the index.
  pub index_claim : WindowLaws S Win → (i : Index S) (r : List (EntryOf S)) → State i r → IndexClaim S Win R N i r
  index_claim Y i r s = record {
    sound = s.sound;
    room = s.room;
    entries_same = s.same;
    entries_once = cell_once S W R i s.sound;
    separate = equal_depth S R i s.sound;
    within = within_parent S R i s.sound;
    deep = equally_deep S i;
    one_leaf = one_leaf S W R i s.sound;
    covers = leaves_cover S W R i s.sound;
    visits_few = visits_height S W R i s.sound;
    walk_nearest = λ c. walk_nearest S W c R i s.sound;
    nearest_is = λ c e h. nearest_same S W c (entries S i) r s.same e (nearest_is S c (entries S i) e h);
    walk_few = λ c. walk_few S c i;
    empty_exact = empty_exact S W R i s.sound Win Y;
    empty_few = empty_few S W R i s.sound Win Y;
  }

  -- For every list of calls from the empty index, with any N.
  pub claim : WindowLaws S Win → (ks : List (Call S Win)) → All (OnGrid S Win) ks → Claim S Win R N ks
  claim Y ks on =
      let start : State none [] = record { sound = tt; room = omega arith; same = λ q. refl } in
      record { index = index_claim Y _ _ (after_state none [] ks on start); reported = all_reported none [] ks on start }

  -- A list after a list: the second starts where the first ended.
  pub after_append : (i : Index S) (ks ms : List (Call S Win)) → after_all S R N Win i (ks ++ ms) ≡ after_all S R N Win (after_all S R N Win i ks) ms
  unfolding after_all
  after_append i [] ms = refl
  after_append i (k ∷ ks) ms = after_append (after S R N Win i k) ks ms

  pub answers_append : (i : Index S) (ks ms : List (Call S Win)) → answers S R N Win i (ks ++ ms) ≡ answers S R N Win i ks ++ answers S R N Win (after_all S R N Win i ks) ms
  unfolding after_all answers
  answers_append i [] ms = refl
  answers_append i (k ∷ ks) ms = ap (λ (l : List (Answer S)). answer S R N Win i k ∷ l) (answers_append (after S R N Win i k) ks ms)

  -- "An accepted removal takes out the entry it names": exactly one, in the index and in the record.
  pub removal_one : (i : Index S) (r : List (EntryOf S)) (c : S.Cell) → State i r → holds S c i ≡ true → length r ≡ suc (length (keep (other S c) r))
  removal_one i r c s h =
      let a = count_of_both (of_cell S c) r in
      let b : count_of (of_cell S c) r ≡ 1 = sym (s.same (of_cell S c)) ∙ cell_once S W R i s.sound c ∙ rw h in
      omega arith
