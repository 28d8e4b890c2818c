-- A time line has few events, each of a step of the plan and in time.
use Rattle.std.proofs.Common.{◌≡◌, ℕ, zero, suc, ◌+◌, ◌<◌, ◌≤◌, All, List, ◌∷◌, length, map, reverse, sum_by, Option, Some, None, IfSome, refl, sym, ap, subst, ⊎_elim, arith, unwrap_or}
use Rattle.std.specs.List.{range_with_len}
use Rattle.std.proofs.lemmas.Bool.{cases_lt}
use Rattle.std.proofs.lemmas.List.Elements.{All-nil}
use Rattle.std.proofs.lemmas.List.Sorted.{IsPermutation-reverse, sum_by-IsPermutation}
use Rattle.std.proofs.lemmas.List.Sums.{sum_by-cons}
use Rattle.apply_model.specs.declared.script.outcome.Outcome.{Outcome}
use Rattle.apply_model.specs.Script.Outcome.{IsBounded, default_outcome}
use Rattle.apply_model.specs.Script.OutcomeMap.{IsInRange, OutcomeMap, stated_outcome, outcome_of}
use Rattle.apply_events.specs.declared.event.Event.{Event}
use Rattle.apply_events.specs.declared.lanes.turn.StartedTurn.{StartedTurn}
use Rattle.apply_events.specs.Fits.{IsOfPlan}
use Rattle.apply_events.specs.Lanes.LaneState.{emitted_by}
use Rattle.apply_events.specs.Lanes.Startable.{IsStartable}
use Rattle.apply_events.specs.Lanes.ToCome.{max_events}
use Rattle.apply_events.specs.Laws.{IsWithinLimits}
use Rattle.apply_events.specs.Step.{Work}
use Rattle.apply_events.specs.Waits.Schedule.{schedule}
use Rattle.apply_events.specs.Waits.TimeLine.{IsTimeLine, lane_turns}
use Rattle.apply_events.specs.Waits.Turn.{turns}
use Rattle.apply_events.proofs.Interleaved.{summed_length}
use Rattle.apply_events.proofs.TimeLines.Merge.{all_parts}
use Rattle.apply_events.proofs.TimeLines.Order.{nobody_else}
use Rattle.apply_events.proofs.Waits.FewEvents.{few_of_turns, lanes_few, lanes_emit, emitted_of_plan}
use Rattle.apply_events.proofs.Waits.Reversed.{All-reverse, emitted_of}
use Rattle.apply_events.proofs.Waits.Shares.{share, shares, two_each}
use Rattle.apply_events.proofs.Waits.Startable.{AllWithin, all_startable}

bounded_if : (given : Option Outcome) → IfSome given IsBounded → IsBounded (unwrap_or given default_outcome)
bounded_if None h = record { short = omega arith; few_provisioners = omega arith; little_output = All-nil _; few_waits = omega arith }
bounded_if (Some outcome) h = h

bounded : (script : OutcomeMap) → IsInRange script → (c k : ℕ) → IsBounded (outcome_of script c k)
bounded script range c k = bounded_if (stated_outcome script c k) (range c k)

-- the lists of lanes from one on, and so many of them, together
summed : (w : Work) (taken : List StartedTurn) (list : ℕ → List Event) → ((v : ℕ) → emitted_by w v taken ≡ list v) → (a m : ℕ) → sum_by length (map list (range_with_len a m)) ≡ lanes_emit w taken a m
summed w taken list same a zero = refl
summed w taken list same a (suc m) =
    let rest = summed w taken list same (a + 1) m in
    let here : length (emitted_by w a taken) ≡ length (list a) = ap length (same a) in
    let sum : sum_by length (list a ∷ map list (range_with_len (a + 1) m)) ≡ length (list a) + sum_by length (map list (range_with_len (a + 1) m)) = sum_by-cons length (list a) (map list (range_with_len (a + 1) m)) in
    omega arith

module _ (w : Work) (n : ℕ) (events : List Event) (some : 0 < n) (limits : IsWithinLimits w) (line : IsTimeLine w n events) where
  abbrev taken : List StartedTurn
  taken = reverse (schedule w n)

  within : AllWithin w
  within c less = record { few = limits.few_steps c; first = bounded w.script limits.short_steps c 0; second = bounded w.script limits.short_steps c 1 }

  startable : All (IsStartable w) taken
  startable = let few = limits.few_changes in All-reverse (IsStartable w) (schedule w n) (all_startable w n some few within)

  told_is : (v : ℕ) → emitted_by w v taken ≡ lane_turns w (schedule w n) v
  told_is v = emitted_of w v taken (schedule w n) refl

  pub of_plan : All (IsOfPlan w.plan) events
  of_plan = all_parts (IsOfPlan w.plan) events (λ v. ⊎_elim
      (λ (lt : v < n). subst (All (IsOfPlan w.plan)) (sym (line.interleaved.parts v lt)) (subst (All (IsOfPlan w.plan)) (told_is v) (emitted_of_plan w v taken within startable)))
      (λ (ge : n ≤ v). subst (All (IsOfPlan w.plan)) (sym (nobody_else n events line.interleaved.named v ge)) (All-nil (IsOfPlan w.plan)))
      (cases_lt v n))

  pub few_events : length events ≤ max_events
  few_events =
      let all = summed_length n (lane_turns w (schedule w n)) events line.interleaved in
      let lanes = summed w taken (lane_turns w (schedule w n)) told_is 0 n in
      let few = lanes_few w taken 0 n in
      let each = few_of_turns w taken within startable in
      let two = two_each w n (length (turns w)) in
      let changes = limits.few_changes in
      let same : shares w taken ≡ shares w (schedule w n) = sum_by-IsPermutation (λ (x : StartedTurn). share w x.turn) (schedule w n) taken (IsPermutation-reverse (schedule w n)) in
      omega arith
