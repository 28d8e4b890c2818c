-- Which steps of a change are applied, by what the script states of them.
use Rattle.std.proofs.Common.{◌≡◌, ◌∙◌, ◌+◌, ◌<◌, ◌≤◌, ℕ, Bool, true, false, cond, ltb, List, [], ◌∷◌, length, take, Option, None, Some, refl, ap, arith, length-take}
use Rattle.std.specs.Prelude.{option_and_then, slice_get, unwrap_or}
use Rattle.std.specs.List.{position_from}
use Rattle.std.specs.Option.{option_map_or}
use Rattle.apply_model.specs.declared.plan.step_kind.StepKind.{StepKind}
use Rattle.apply_model.specs.declared.script.outcome.Outcome.{Outcome}
use Rattle.apply_model.specs.declared.script.script_step.ScriptStep.{ScriptStep}
use Rattle.apply_model.specs.declared.script.script_step.ScriptStep.TheVariants.{Answered, Skipped}
use Rattle.apply_model.specs.declared.script.wait.Wait.{Wait}
use Rattle.apply_model.specs.Plan.SavedPlan.{SavedPlan}
use Rattle.apply_model.specs.Script.Outcome.{default_outcome}
use Rattle.apply_model.specs.Script.OutcomeMap.{OutcomeMap, outcome_of, stated_steps}
use Rattle.apply_model.specs.Script.Step.{answer_to, if_byte, is_skipped}
use Rattle.apply_events.specs.Step.{kinds_applied, kinds_of}

-- the kinds before the first skipped step
abbrev applied_of : List StepKind → (skipped : Option ℕ) → List StepKind
applied_of kinds skipped = option_map_or (λ number. take number kinds) (if_byte skipped) kinds

position_late : (test : ScriptStep → Bool) (n : ℕ) (steps : List ScriptStep) (m : ℕ) → position_from test n steps ≡ Some m → n ≤ m
position_late test n [] m is = absurd cc
position_late test n (step ∷ steps) m is = by_test (test step) is (position_late test (n + 1) steps m)
  where
    by_test : (b : Bool) → cond b (Some n) (position_from test (n + 1) steps) ≡ Some m → (position_from test (n + 1) steps ≡ Some m → n + 1 ≤ m) → n ≤ m
    by_test true here rest = let same : n ≡ m = cc in omega (arith, same)
    by_test false later rest = omega (arith, rest later)

some_applied : (kinds : List StepKind) (skipped : Option ℕ) → 0 < length kinds → ((m : ℕ) → skipped ≡ Some m → 1 ≤ m) → 0 < length (applied_of kinds skipped)
some_applied kinds None some late = some
some_applied kinds (Some m) some late = by_size (ltb m 256)
  where
    by_size : (b : Bool) → 0 < length (option_map_or (λ (number : ℕ). take number kinds) (cond b (Some m) None) kinds)
    by_size true = omega (arith, length-take m kinds, late m refl, some)
    by_size false = some

module _ (plan : SavedPlan) (script : OutcomeMap) (c : ℕ) where
  applied_is : (stated : List ScriptStep) → stated_steps script c ≡ Some stated → kinds_applied plan script c ≡ applied_of (kinds_of plan c) (position_from is_skipped 0 stated)
  applied_is stated is =
      ap (λ (o : Option (List ScriptStep)). option_map_or (λ (number : ℕ). take number (kinds_of plan c)) (option_and_then (λ steps. if_byte (position_from is_skipped 0 steps)) o) (kinds_of plan c)) is

  pub outcome_at : (stated : List ScriptStep) (k : ℕ) (outcome : Outcome) → stated_steps script c ≡ Some stated → slice_get stated k ≡ Some (Answered outcome) → outcome_of script c k ≡ outcome
  outcome_at stated k outcome is at =
      ap (λ (o : Option (List ScriptStep)). unwrap_or (option_and_then answer_to (option_and_then (λ steps. slice_get steps k) o)) default_outcome) is
      ∙ ap (λ (o : Option ScriptStep). unwrap_or (option_and_then answer_to o) default_outcome) at

  -- a skipped first step: none is applied
  pub none_applied : (after : List Wait) (rest : List ScriptStep) → stated_steps script c ≡ Some (Skipped after ∷ rest) → length (kinds_applied plan script c) ≤ 0
  none_applied after rest is =
      let all = ap (length {A = StepKind}) (applied_is (Skipped after ∷ rest) is) in
      let none : length (take 0 (kinds_of plan c)) ≡ 0 = refl in omega (arith, all, none)

  -- a first step that is answered is applied
  pub first_applied : (outcome : Outcome) (rest : List ScriptStep) → stated_steps script c ≡ Some (Answered outcome ∷ rest) → 0 < length (kinds_of plan c) → 0 < length (kinds_applied plan script c)
  first_applied outcome rest is some =
      let all = ap (length {A = StepKind}) (applied_is (Answered outcome ∷ rest) is) in
      let one = some_applied (kinds_of plan c) (position_from is_skipped 1 rest) some (λ m at. position_late is_skipped 1 rest m at) in omega (arith, all, one)

  -- two steps that are answered are both applied
  pub both_applied : (first second : Outcome) → stated_steps script c ≡ Some (Answered first ∷ Answered second ∷ []) → kinds_applied plan script c ≡ kinds_of plan c
  both_applied first second is = applied_is (Answered first ∷ Answered second ∷ []) is

  -- a skipped second step is not applied
  pub one_applied : (first : Outcome) (after : List Wait) → stated_steps script c ≡ Some (Answered first ∷ Skipped after ∷ []) → length (kinds_applied plan script c) ≤ 1
  one_applied first after is =
      let all = ap (length {A = StepKind}) (applied_is (Answered first ∷ Skipped after ∷ []) is) in
      omega (arith, all, length-take 1 (kinds_of plan c))
