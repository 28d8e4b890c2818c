-- Steps that lanes took up in the plan's order get no waits.
use Rattle.std.proofs.Common.{◌≡◌, ◌∙◌, ◌+◌, ◌<◌, ◌≤◌, ℕ, List, [], Bool, true, false, ◌&&◌, Option, None, cond, length, sym, ap, arith, subst, ⊎_elim}
use Rattle.std.specs.Prelude.{is_some, not, option_to_list, slice_index_or}
use Rattle.std.specs.Option.{option_map_or}
use Rattle.std.proofs.lemmas.Bool.{and_left, and_right, cases_eq, cases_lt, true≢false}
use Rattle.std.proofs.lemmas.List.{get_or_past}
use Rattle.std.proofs.lemmas.List.FromFn.{get_or-map-range_with_len}
use Rattle.apply_events.specs.Step.{Work}
use Rattle.stream_record_waits.specs.declared.choices.Choices.{Choices}
use Rattle.stream_record_waits.specs.declared.step_of_plan.StepOfPlan.{StepOfPlan}
use Rattle.stream_record_waits.specs.Course.{pinned_waits}
use Rattle.stream_record_waits.specs.Graph.{waits_at}
use Rattle.stream_record_waits.specs.Guess.{cause_of, guessed_wait, queue_wait, wait_without_graph, waits_without_graph}
use Rattle.stream_record_waits.specs.Recorded.{AreRecordedWaits, found_basis}
use Rattle.stream_record_waits.specs.Steps.{both_began, follows_at_once, has_begun, step_before}
use Rattle.laws_queue.specs.OfLanes.{HasNoWaits, HasStep, IsOfLanes, place_of}
use Rattle.laws_record.specs.Schedules.{waits_of}
use Rattle.laws_queue.proofs.Keeps.{keeps}
use Rattle.laws_record.proofs.Pinless.{no_pins}
use Rattle.laws_queue.proofs.Places.{located}
use Rattle.laws_queue.proofs.RecordedSteps.{begun_has, none_before, second_follows}

module _ (work : Work) (n : ℕ) (steps : List StepOfPlan) (of : IsOfLanes work n steps) where
  -- a step that began is one of the plan
  known : (p : ℕ) → has_begun steps p ≡ true → p < length steps
  known p began = ⊎_elim
      (λ (lt : p < length steps). lt)
      (λ (past : length steps ≤ p). absurd (true≢false (sym began ∙ ap (λ (step : StepOfPlan). is_some step.run) (get_or_past steps p (record { is_first = false; run = None }) past))))
      (cases_lt p (length steps))

  no_queue : (p : ℕ) → has_begun steps p ≡ true → (both_began steps p && not (follows_at_once steps p)) ≡ false
  no_queue p began =
      let low = known p began in
      let each = of.each in
      let at = located work.plan (length work.plan.changes) p (omega arith) in
      let has : HasStep work at.c at.k = (at.known, at.has) in
      let count = begun_has work n steps of at.c at.k p has at.is began in ⊎_elim
      (λ (first : at.k ≡ 0).
      let has' : HasStep work at.c 0 = (at.known, let lt = at.has in omega arith) in
      let is = at.is in
      let none = none_before work n steps of at.c p has' (omega arith) in
      and_left (both_began steps p) (not (follows_at_once steps p))
      (and_right (has_begun steps p) (option_map_or (has_begun steps) (step_before steps p) false) (ap (λ o. option_map_or (has_begun steps) o false) none)))
      (λ (other : at.k ≡ 0 → ⊥).
      let few = of.few at.c in
      let lt = at.has in
      let second : at.k ≡ 1 = omega arith in
      let has' : HasStep work at.c 1 = (at.known, omega arith) in
      let is = at.is in
      and_right (both_began steps p) (not (follows_at_once steps p)) (ap not (ap (follows_at_once steps) (let same : p ≡ place_of work.plan at.c + 1 = omega arith in same)
      ∙ second_follows work n steps of at.c has' (omega arith))))
      (cases_eq at.k 0)

  none_found : (behind : List (Option ℕ)) (guesses : Bool) → HasNoWaits steps (waits_without_graph steps behind guesses)
  none_found behind guesses p began =
      let cause = cause_of steps guesses in
      get_or-map-range_with_len (λ step. option_to_list (wait_without_graph steps behind cause step)) 0 (length steps) p p [] (known p began) (omega arith)
      ∙ ap (λ t. option_to_list (cond t (queue_wait steps behind p) (guessed_wait steps cause p))) began
      ∙ ap (λ t. option_to_list (cond t (slice_index_or behind p None) None)) (no_queue p began)

  pub none_recorded : (some : 0 < n) (choices : Choices) (after early : List (List ℕ)) → choices.lanes ≡ n → AreRecordedWaits steps None choices after early
      → (step : ℕ) → has_begun steps step ≡ true → waits_at after step ≡ []
  none_recorded some choices after early lanes are step began =
      let basis = found_basis steps None are.behind are.found in
      let none : HasNoWaits steps are.found = subst (HasNoWaits steps) (sym are.are_found.0) (none_found are.behind choices.guesses) in
      let same : after ≡ waits_of basis =
      are.after_is ∙ ap (pinned_waits basis) lanes ∙ no_pins basis n (keeps work n some steps of are.found none are.behind are.are_behind) in
      ap (λ lists. waits_at lists step) same
      ∙ get_or-map-range_with_len (λ step. waits_at are.found step) 0 (length steps) step step [] (known step began) (omega arith)
      ∙ none step began
