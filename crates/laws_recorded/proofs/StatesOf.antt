-- Which states steps have.
use Rattle.std.proofs.Common.{◌≡◌, ◌∙◌, ◌+◌, ◌<◌, ℕ, zero, suc, Bool, true, false, cond, List, Option, None, Some, refl, sym, ap, arith}
use Rattle.std.specs.Prelude.{◌&&◌, is_some, length, not, slice_get}
use Rattle.std.proofs.lemmas.Option.{slice_get_within}
use Rattle.std.proofs.lemmas.List.FromFn.{length-map-range_with_len}
use Rattle.stream_record_waits.specs.declared.step_of_plan.StepOfPlan.{StepOfPlan}
use Rattle.stream_record_waits.specs.declared.step_of_plan.StepRun.{StepRun}
use Rattle.stream_record_waits.specs.declared.step_state.StepState.{StepState}
use Rattle.stream_record_waits.specs.declared.step_state.StepState.TheVariants.{Began, Answered, Skipped, Absent}
use Rattle.stream_record_waits.specs.Graph.{waits_at}
use Rattle.stream_record_waits.specs.States.{ends_change, is_explained, state_at, state_of, states_of}
use Rattle.stream_record_waits.specs.Steps.{has_begun, step_at}
use Rattle.laws_recorded.proofs.Ranked.{range_got}

if_begun : (begun explained : Bool) → cond begun Began (cond explained Answered Skipped) ≡ Began → begun ≡ true
if_begun true explained is = refl
if_begun false true is = cc
if_begun false false is = cc

not_absent : (begun explained : Bool) → cond begun Began (cond explained Answered Skipped) ≡ Absent → ⊥
not_absent true explained is = cc
not_absent false true is = cc
not_absent false false is = cc

module _ (steps : List StepOfPlan) (after : List ℕ) (step : ℕ) where
  began_of : (ended : Bool) → state_of steps after step ended ≡ Began → has_begun steps step ≡ true
  began_of true is = cc
  began_of false is = if_begun (has_begun steps step) (is_explained steps after step) is

  absent_of : (ended : Bool) → state_of steps after step ended ≡ Absent → ended ≡ true
  absent_of true is = refl
  absent_of false is = absurd (not_absent (has_begun steps step) (is_explained steps after step) is)

run_of_begun : (run : Option StepRun) → is_some run ≡ true → (one : StepRun) × (run ≡ Some one)
run_of_begun None is = cc
run_of_begun (Some one) is = (one, refl)

module _ (steps : List StepOfPlan) (after : List (List ℕ)) where
  has_begun_if : (step : ℕ) → state_at steps after step ≡ Began → has_begun steps step ≡ true
  has_begun_if zero is = began_of steps (waits_at after zero) zero false is
  has_begun_if (suc step) is =
      began_of steps (waits_at after (suc step)) (suc step) (not (step_at steps (suc step)).is_first && ends_change (state_at steps after step)) is

  -- a step in the state began
  pub began : (step : ℕ) → state_at steps after step ≡ Began → (one : StepRun) × ((step_at steps step).run ≡ Some one)
  began step is = run_of_begun (step_at steps step).run (has_begun_if step is)

  no_end : (b c : Bool) → b ≡ true → (not b && c) ≡ true → ⊥
  no_end true c first is = cc
  no_end false c first is = cc

  -- the first step of a change is stated
  pub first_stated : (step : ℕ) → (step_at steps step).is_first ≡ true → state_at steps after step ≡ Absent → ⊥
  first_stated zero first is = let no : false ≡ true = absent_of steps (waits_at after zero) zero false is in cc
  first_stated (suc step) first is =
      no_end (step_at steps (suc step)).is_first (ends_change (state_at steps after step)) first
      (absent_of steps (waits_at after (suc step)) (suc step) (not (step_at steps (suc step)).is_first && ends_change (state_at steps after step)) is)

  -- the state in the list
  pub state_in : (step : ℕ) (state : StepState) → slice_get (states_of steps after) step ≡ Some state → (step < length steps) × (state ≡ state_at steps after step)
  state_in step state at =
      let many = length-map-range_with_len (state_at steps after) 0 (length steps) in
      let inside = slice_get_within (states_of steps after) step state at in
      let within : step < length steps = omega (arith, many, inside) in
      let same : 0 + step ≡ step = omega arith in
      let there : Some state ≡ Some (state_at steps after step) = sym at ∙ range_got (state_at steps after) 0 (length steps) step within ∙ ap (λ (n : ℕ). Some (state_at steps after n)) same in
      (within, cc)
