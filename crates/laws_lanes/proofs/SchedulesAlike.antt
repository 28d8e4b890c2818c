-- Works whose steps go alike start the same turns, but for turns without steps that begin.
use Rattle.std.proofs.Common.{◌≡◌, ◌≢◌, ℕ, zero, suc, ◌+◌, ◌-◌, ◌<◌, ◌≤◌, Bool, true, false, ◌&&◌, not, List, ◌∷◌, Some, None, length, refl, sym, ap, ◌∙◌, subst, ⊎_elim, inl, inr, arith, eqb}
use Rattle.std.specs.List.{Contains, filter}
use Rattle.std.proofs.lemmas.Bool.{and_from, cases_Bool, true≢false}
use Rattle.apply_model.specs.declared.script.wait.Wait.{Wait}
use Rattle.apply_events.specs.Step.{Work, kinds_applied, kinds_of}
use Rattle.apply_events.specs.declared.lanes.lane_time.LaneTime.{LaneTime}
use Rattle.apply_events.specs.declared.lanes.turn.StartedTurn.{StartedTurn}
use Rattle.apply_events.specs.declared.lanes.turn.Turn.{Turn}
use Rattle.apply_events.specs.Waits.Done.{done_at}
use Rattle.apply_events.specs.Waits.Schedule.{Ready, first_ready, free_after, schedule, started_in, with_next}
use Rattle.apply_events.specs.Waits.TimeLine.{lane_turns}
use Rattle.apply_events.specs.Waits.Turn.{turns, waits_of_turn}
use Rattle.apply_events.proofs.AppliedSteps.{few_applied}
use Rattle.apply_events.proofs.Waits.Members.{in_head}
use Rattle.apply_events.proofs.Waits.Once.{IsTurnOf, turn_is}
use Rattle.apply_events.proofs.Waits.StartedTurns.{is_fit, none_is_ready}
use Rattle.apply_events.proofs.Waits.TurnSteps.{first_begins}
use Rattle.laws_lanes.specs.Alike.{GoesAlike, WaitsInVain, hooks_of}
use Rattle.laws_lanes.proofs.BegunSteps.{when_split}
use Rattle.laws_lanes.proofs.Chosen.{IsFitting, IsKept, are_kept, chosen, from_test, kept, kept_end, same_end, scheduled_is, stays, still_done, still_there}
use Rattle.laws_lanes.proofs.Mirrored.{AreMirrored, chosen_mirrored, are_mirrored, each_before, mirrored, mirrored_done, mirrored_end, mirrored_shown}
use Rattle.laws_lanes.proofs.TurnsAlike.{begun, begun_if, is_mirrored, same_turns, takes, waits_are}

-- the first step of a turn with steps is applied
steps_in : (w : Work) (turn : Turn) → IsTurnOf w turn.change turn → turn.count ≢ 0 → turn.first < length (kinds_applied w.plan w.script turn.change)
steps_in w turn (inl one) some =
    let first = ap (λ (t : Turn). t.first) one.1 in let count = ap (λ (t : Turn). t.count) one.1 in let more : turn.count ≢ 0 = some in omega arith
steps_in w turn (inr (split, inl is)) some =
    let first = ap (λ (t : Turn). t.first) is in let two = (when_split w turn.change split).0 in omega arith
steps_in w turn (inr (split, inr is)) some =
    let first = ap (λ (t : Turn). t.first) is in let two = (when_split w turn.change split).0 in omega arith

not_zero : (k : ℕ) → eqb k 0 ≡ false → k ≢ 0
not_zero zero is same = true≢false is
not_zero (suc k) is same = omega arith

module _ (w v : Work) (n : ℕ) (h : GoesAlike w v n) where
  abbrev pub test : Turn → Bool
  test = takes w v n h

  -- ---- the first work

  first_fits : (count : ℕ) (ready : Ready) → count < length (turns w) → IsKept w n (takes w v n h) (chosen w n (turns w) count) → first_ready w (chosen w n (turns w) count) (turns w) ≡ Some ready
      → IsFitting w n (takes w v n h) ready
  first_fits count ready less kept is = ⊎_elim
      (λ (none : eqb ready.turn.count 0 ≡ true). inr (ap (λ t. not t && begun w v n h ready.turn.change ready.turn.first) none, from_test ready.turn.count 0 none))
      (λ (some : eqb ready.turn.count 0 ≡ false).
      let started = chosen w n (turns w) count in
      let one = started_in (free_after w n started) ready in
      let fit = is_fit w started (turns w) ready is in
      let more = not_zero ready.turn.count some in
      let step = first_begins w ready.turn (let ne : ready.turn.count ≢ 0 = more in omega arith) (steps_in w ready.turn (turn_is w ready.turn fit.is_known) more) in
      let next : chosen w n (turns w) (suc count) ≡ one ∷ started = ap (with_next w n started) is in
      let there : Contains (chosen w n (turns w) (suc count)) one = subst (λ l. Contains l one) (sym next) (in_head one started) in
      let rounds : length (turns w) - suc count + suc count ≡ length (turns w) = omega arith in
      let inside : Contains (schedule w n) one = subst (λ l. Contains l one) (ap (chosen w n (turns w)) rounds ∙ sym (scheduled_is w n (length (turns w))))
      (still_there w n (turns w) (suc count) (length (turns w) - suc count) one there) in
      inl (and_from (not (eqb ready.turn.count 0)) (begun w v n h ready.turn.change ready.turn.first) (ap not some)
      (begun_if w (schedule w n) ready.turn.change ready.turn.first one step.0 inside refl step.1 step.2)))
      (cases_Bool (eqb ready.turn.count 0))

  pub first_kept : IsKept w n (takes w v n h) (schedule w n)
  first_kept = subst (IsKept w n (takes w v n h)) (sym (scheduled_is w n (length (turns w)))) (are_kept w n (takes w v n h) (length (turns w)) first_fits (length (turns w)) (omega arith))

  first_end : first_ready w (chosen w n (filter (takes w v n h) (turns w)) first_kept.rounds) (filter (takes w v n h) (turns w)) ≡ None
  first_end = ap (λ l. first_ready w l (filter (takes w v n h) (turns w))) first_kept.are ∙ kept_end w n (takes w v n h) (schedule w n) first_kept (none_is_ready w n)

  -- what is done in some rounds is done in all
  done_at_last : (rounds : ℕ) (name : Wait) (m : LaneTime) → done_at w (chosen w n (filter (takes w v n h) (turns w)) rounds) name ≡ Some m → (at : LaneTime) × (done_at w (schedule w n) name ≡ Some at)
  done_at_last rounds name m is =
      let ts = filter (takes w v n h) (turns w) in
      let last = still_done w n ts rounds first_kept.rounds name (m, is) in
      let swap : first_kept.rounds + rounds ≡ rounds + first_kept.rounds = omega arith in
      let same : chosen w n ts (first_kept.rounds + rounds) ≡ kept (takes w v n h) (schedule w n) = ap (chosen w n ts) swap ∙ stays w n ts first_kept.rounds first_end rounds ∙ first_kept.are in
      (last.0, sym (ap (λ l. done_at w l name) same ∙ first_kept.done name) ∙ last.1)

  -- ---- the second work

  chosen_same : (rounds : ℕ) → chosen v n (filter (takes w v n h) (turns v)) rounds ≡ mirrored v (chosen w n (filter (takes w v n h) (turns w)) rounds)
  chosen_same rounds = ap (λ ts. chosen v n ts rounds) (same_turns w v n h) ∙ chosen_mirrored w v n (filter (takes w v n h) (turns w)) (is_mirrored w v n h) rounds

  -- what is done there is done in the first work
  done_there : (started : List StartedTurn) → IsKept v n (takes w v n h) started → (name : Wait) (m : LaneTime) → done_at v started name ≡ Some m → (at : LaneTime) × (done_at w (schedule w n) name ≡ Some at)
  done_there started kept name m is =
      let ts = filter (takes w v n h) (turns w) in
      done_at_last kept.rounds name m
      (sym (mirrored_done w v (chosen w n ts kept.rounds) name (are_mirrored w v n ts (is_mirrored w v n h) kept.rounds))
      ∙ sym (ap (λ l. done_at v l name) (sym kept.are ∙ chosen_same kept.rounds)) ∙ kept.done name ∙ is)

  -- a turn whose first step does not begin in the first work is never ready
  never_ready : (started : List StartedTurn) → IsKept v n (takes w v n h) started → (ready : Ready) → first_ready v started (turns v) ≡ Some ready
      → eqb ready.turn.count 0 ≡ false → begun w v n h ready.turn.change ready.turn.first ≡ false → ⊥
  never_ready started kept ready is some never =
      let c = ready.turn.change in let k = ready.turn.first in
      let fit = is_fit v started (turns v) ready is in
      let applied = steps_in v ready.turn (turn_is v ready.turn fit.is_known) (not_zero ready.turn.count some) in
      let less = few_applied v.plan v.script c in
      let planned : k < length (kinds_of w.plan c) = subst (λ plan. k < length (kinds_of plan c)) h.plan (omega arith) in ⊎_elim
      (λ (skipped : length (kinds_applied v.plan v.script c) ≤ k). let low = skipped in let high = applied in omega arith)
      (λ (vain : WaitsInVain w v n c k).
      let waited : Contains (waits_of_turn v ready.turn) vain.name = subst (λ l. Contains l vain.name) (sym (waits_are v ready.turn some)) vain.waits in
      let done = each_before v started (waits_of_turn v ready.turn) ready.at fit.is_ready vain.name waited in
      let last = done_there started kept vain.name done.0 done.1 in
      let both : None ≡ Some last.0 = sym vain.never ∙ last.1 in cc)
      (h.left_out c k planned never)

  second_fits : (count : ℕ) (ready : Ready) → count < length (turns v) → IsKept v n (takes w v n h) (chosen v n (turns v) count) → first_ready v (chosen v n (turns v) count) (turns v) ≡ Some ready
      → IsFitting v n (takes w v n h) ready
  second_fits count ready less kept is = ⊎_elim
      (λ (none : eqb ready.turn.count 0 ≡ true). inr (ap (λ t. not t && begun w v n h ready.turn.change ready.turn.first) none, from_test ready.turn.count 0 none))
      (λ (some : eqb ready.turn.count 0 ≡ false). ⊎_elim
      (λ (begins : begun w v n h ready.turn.change ready.turn.first ≡ true).
      inl (and_from (not (eqb ready.turn.count 0)) (begun w v n h ready.turn.change ready.turn.first) (ap not some) begins))
      (λ (never : begun w v n h ready.turn.change ready.turn.first ≡ false). absurd (never_ready (chosen v n (turns v) count) kept ready is some never))
      (cases_Bool (begun w v n h ready.turn.change ready.turn.first)))
      (cases_Bool (eqb ready.turn.count 0))

  pub second_kept : IsKept v n (takes w v n h) (schedule v n)
  second_kept = subst (IsKept v n (takes w v n h)) (sym (scheduled_is v n (length (turns v)))) (are_kept v n (takes w v n h) (length (turns v)) second_fits (length (turns v)) (omega arith))

  -- ---- both

  -- the turns with steps are the same, started in the same lanes at the same times
  pub same_schedule : kept (takes w v n h) (schedule v n) ≡ mirrored v (kept (takes w v n h) (schedule w n))
  same_schedule =
      let ts = filter (takes w v n h) (turns w) in
      let others = filter (takes w v n h) (turns v) in
      let end : first_ready v (chosen v n others second_kept.rounds) others ≡ None =
      ap (λ l. first_ready v l others) second_kept.are ∙ kept_end v n (takes w v n h) (schedule v n) second_kept (none_is_ready v n) in
      let mirrored_last : first_ready v (chosen v n others first_kept.rounds) others ≡ None =
      ap (λ l. first_ready v (chosen v n l first_kept.rounds) l) (same_turns w v n h) ∙ mirrored_end w v n ts (is_mirrored w v n h) first_kept.rounds first_end in
      sym second_kept.are ∙ same_end v n others second_kept.rounds first_kept.rounds end mirrored_last ∙ chosen_same first_kept.rounds ∙ ap (mirrored v) first_kept.are

  pub all_mirrored : AreMirrored w v (kept (takes w v n h) (schedule w n))
  all_mirrored = subst (AreMirrored w v) first_kept.are (are_mirrored w v n (filter (takes w v n h) (turns w)) (is_mirrored w v n h) first_kept.rounds)

  -- each lane has the same hook messages
  pub same_lanes : (lane : ℕ) → hooks_of (lane_turns v (schedule v n) lane) ≡ hooks_of (lane_turns w (schedule w n) lane)
  same_lanes lane =
      ap hooks_of (sym (second_kept.events lane)) ∙ ap (λ l. hooks_of (lane_turns v l lane)) same_schedule
      ∙ mirrored_shown w v (kept (takes w v n h) (schedule w n)) lane all_mirrored ∙ ap hooks_of (first_kept.events lane)
