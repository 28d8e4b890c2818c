-- The seconds of steps.
use Rattle.std.proofs.Common.{◌≡◌, ◌<◌, ◌≤◌, ◌^◌, ℕ, None, false, length, get_or, sym, arith, subst, ⊎_elim}
use Rattle.std.specs.Option.{option_map_or}
use Rattle.std.proofs.lemmas.Bool.{cases_lt}
use Rattle.std.proofs.lemmas.List.{get_or_past}
use Rattle.stream_record_waits.specs.declared.step_of_plan.StepOfPlan.{StepOfPlan}
use Rattle.stream_record_waits.specs.Course.{Basis, seconds_at}

-- a step that the plan does not have takes no time
pub all_short : (basis : Basis) → ((step : ℕ) → step < length basis.steps → seconds_at basis step < 2 ^ 32) → (step : ℕ) → seconds_at basis step < 2 ^ 32
all_short basis short step = ⊎_elim
    (λ (lt : step < length basis.steps). short step lt)
    (λ (ge : length basis.steps ≤ step).
    let none : StepOfPlan = record { is_first = false; run = None } in
    let past : get_or basis.steps step none ≡ none = get_or_past basis.steps step none ge in
    subst (λ (one : StepOfPlan). option_map_or (λ run. run.seconds) one.run 0 < 2 ^ 32) (sym past) (omega arith))
    (cases_lt step (length basis.steps))
