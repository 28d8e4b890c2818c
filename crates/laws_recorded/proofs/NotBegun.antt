-- What a step that did not begin waits for.
use Rattle.std.proofs.Common.{◌≡◌, ◌∙◌, ◌+◌, ◌<◌, ℕ, Bool, true, false, cond, List, [], zero, suc, length, get_or, Option, None, Some, refl, sym, ap, arith, subst}
use Rattle.std.specs.Prelude.{◌&&◌, ◌==◌, count_by, is_some, option_to_list, position}
use Rattle.std.specs.Prelude.{not as negated}
use Rattle.std.specs.List.{Contains}
use Rattle.std.specs.Option.{option_map_or}
use Rattle.std.proofs.lemmas.List.FromFn.{get_or-map-range_with_len}
use Rattle.std.proofs.lemmas.List.Quantifiers.{position-Some}
use Rattle.stream_record_waits.specs.declared.choices.Choices.{Choices}
use Rattle.stream_record_waits.specs.declared.step_of_plan.StepOfPlan.{StepOfPlan}
use Rattle.stream_record_waits.specs.declared.step_of_plan.StepRun.{StepRun}
use Rattle.stream_record_waits.specs.Behind.{IsBehind}
use Rattle.stream_record_waits.specs.Course.{Basis, is_pinned, pin_at, pinned_waits, schedule, with_wait}
use Rattle.stream_record_waits.specs.Graph.{AreStepWaits, waits_at}
use Rattle.stream_record_waits.specs.Guess.{cause_of, guessed_wait, queue_wait, wait_without_graph}
use Rattle.stream_record_waits.specs.Recorded.{AreRecordedWaits, found_basis, puts_back}
use Rattle.stream_record_waits.specs.Steps.{are_same, has_begun, has_failed, is_failure, step_at, step_before}

-- ---- a step that did not begin is not put back

behind_none : (steps : List StepOfPlan) (run : Option StepRun) (behind : Option ℕ) → run ≡ None → IsBehind steps run behind → behind ≡ None
behind_none steps None behind not is = is
behind_none steps (Some run) behind not is = cc

either_none : (b : Bool) (o : Option ℕ) → o ≡ None → cond b o None ≡ None
either_none true o is = is
either_none false o is = refl

module _ (steps : List StepOfPlan) (graph : Option (List (List ℕ))) (choices : Choices) (after early : List (List ℕ))
    (are : AreRecordedWaits steps graph choices after early) (step : ℕ) (within : step < length steps) (not : (step_at steps step).run ≡ None) where
  basis : Basis
  basis = found_basis steps graph are.behind are.found

  no_behind : get_or are.behind step None ≡ None
  no_behind = behind_none steps (step_at steps step).run (get_or are.behind step None) not (are.are_behind.are step within)

  as_found_by : (b : Bool) → get_or (cond b (pinned_waits (found_basis steps graph are.behind are.found) choices.lanes) are.found) step [] ≡ get_or are.found step []
  as_found_by true =
      let own = found_basis steps graph are.behind are.found in
      let course = schedule own choices.lanes in
      let same : 0 + step ≡ step = omega arith in
      get_or-map-range_with_len (λ (n : ℕ). with_wait (pin_at own course n) (waits_at are.found n)) 0 (length steps) step step [] within same
      ∙ ap (λ (pin : Option ℕ). with_wait pin (get_or are.found step [])) (either_none (is_pinned course step) (get_or are.behind step None) no_behind)
  as_found_by false = refl

  pub as_found : waits_at after step ≡ waits_at are.found step
  as_found = ap (λ (lists : List (List ℕ)). get_or lists step []) are.after_is ∙ as_found_by (puts_back graph choices)

-- ---- with a graph it waits for what the graph states

module _ (steps : List StepOfPlan) (graph : List (List ℕ)) where
  by_graph : (step : ℕ) (run : Option StepRun) (after early : List ℕ) → run ≡ None → AreStepWaits steps graph step run after early → after ≡ waits_at graph step
  by_graph step None after early not are = are.0
  by_graph step (Some run) after early not are = cc

  pub as_stated : (choices : Choices) (after early : List (List ℕ)) (are : AreRecordedWaits steps (Some graph) choices after early) (step : ℕ) → step < length steps
      → (step_at steps step).run ≡ None → waits_at after step ≡ waits_at graph step
  as_stated choices after early are step within not =
      as_found steps (Some graph) choices after early are step within not
      ∙ by_graph step (step_at steps step).run (waits_at are.found step) (waits_at early step) not (are.are_found.waits step within)

-- ---- without a graph it waits for the step that failed

failed_began : (step : StepOfPlan) → has_failed step ≡ true → (run : StepRun) × (step.run ≡ Some run)
failed_began step failed = of step.run refl failed
  where
    of : (run : Option StepRun) → step.run ≡ run → option_map_or (λ (r : StepRun). is_failure r.fate) run false ≡ true → (run : StepRun) × (step.run ≡ Some run)
    of None is failed = cc
    of (Some run) is failed = (run, is)

module _ (steps : List StepOfPlan) where
  HasBegun : ℕ → Type 0
  HasBegun other = (run : StepRun) × ((step_at steps other).run ≡ Some run)

  cause_by : (b : Bool) (o : Option ℕ) (other : ℕ) → cond b o None ≡ Some other → o ≡ Some other
  cause_by true o other is = is
  cause_by false o other is = cc

  cause_began : (guesses : Bool) (other : ℕ) → cause_of steps guesses ≡ Some other → (run : StepRun) × ((step_at steps other).run ≡ Some run)
  cause_began guesses other is =
      let found = cause_by (guesses && (count_by has_failed steps == 1)) (position has_failed steps) other is in
      failed_began (step_at steps other) (position-Some has_failed steps other (record { is_first = false; run = None }) found).1

  alone : (o : Option ℕ) (other : ℕ) → Contains (option_to_list o) other → o ≡ Some other
  alone None other (k, less, is) = absurd (omega (arith, less))
  alone (Some x) other (zero, less, is) = ap Some is
  alone (Some x) other (suc k, less, is) = absurd (omega (arith, less))

  not_begun : (run : Option StepRun) (x y : Option ℕ) → run ≡ None → cond (is_some run) x y ≡ y
  not_begun None x y not = refl
  not_begun (Some run) x y not = cc

  pub guessed_began : (choices : Choices) (after early : List (List ℕ)) → AreRecordedWaits steps None choices after early → (step other : ℕ) → step < length steps
      → (step_at steps step).run ≡ None → Contains (waits_at after step) other → (run : StepRun) × ((step_at steps other).run ≡ Some run)
  guessed_began choices after early are step other within not has =
      let cause = cause_of steps choices.guesses in
      let same : 0 + step ≡ step = omega arith in
      let row : waits_at after step ≡ option_to_list (wait_without_graph steps are.behind cause step) =
      as_found steps None choices after early are step within not
      ∙ ap (λ (lists : List (List ℕ)). get_or lists step []) are.are_found.0
      ∙ get_or-map-range_with_len (λ (n : ℕ). option_to_list (wait_without_graph steps are.behind cause n)) 0 (length steps) step step [] within same in
      let only = alone (wait_without_graph steps are.behind cause step) other (subst (λ (ns : List ℕ). Contains ns other) row has) in
      let guessed : guessed_wait steps cause step ≡ Some other = sym (not_begun (step_at steps step).run (queue_wait steps are.behind step) (guessed_wait steps cause step) not) ∙ only in
      cause_began choices.guesses other
      (cause_by (option_map_or (has_begun steps) (step_before steps step) true && negated (are_same cause (step_before steps step))) cause other guessed)
