-- How a recorded script states each step.
use Rattle.std.specs.Prelude.{ℕ, zero, suc, ◌-◌, ◌&&◌, ◌||◌, List, ◌++◌, Bool, true, false, length, map, nat_lt, not, option_to_list, slice_index_or, if◌then◌else◌}
use Rattle.std.specs.List.{list_any, range_with_len}
use Rattle.stream_record_waits.specs.declared.step_state.StepState.{StepState}
use Rattle.stream_record_waits.specs.declared.step_state.StepState.TheVariants.{Began, Answered, Skipped, Absent}
use Rattle.stream_record_waits.specs.declared.step_of_plan.StepOfPlan.{StepOfPlan}
use Rattle.stream_record_waits.specs.Graph.{waits_at}
use Rattle.stream_record_waits.specs.Steps.{has_begun, has_failed, step_at, step_before}

-- What waits for a step that failed or did not begin does not begin either.
abbrev pub holds_up : (steps : List StepOfPlan) → ℕ → Bool
holds_up steps step = not (has_begun steps step) || has_failed (step_at steps step)

-- A wait of the step explains that it did not begin.
abbrev pub is_explained : (steps : List StepOfPlan) → (after : List ℕ) → ℕ → Bool
is_explained steps after step = list_any (holds_up steps) (option_to_list (step_before steps step) ++ after)

-- The state of a step, where its change has ended before it, or has not.
abbrev pub state_of : (steps : List StepOfPlan) → (after : List ℕ) → ℕ → (has_ended : Bool) → StepState
state_of steps after step true = Absent
state_of steps after step false =
    if has_begun steps step then Began else (if is_explained steps after step then Answered else Skipped)

-- A change ends with a step that is skipped.
abbrev pub ends_change : StepState → Bool
ends_change Began = false
ends_change Answered = false
ends_change Skipped = true
ends_change Absent = true

-- The change of a step has ended before it, by the states of the steps before.
abbrev pub has_ended : (steps : List StepOfPlan) → (states : List StepState) → ℕ → Bool
has_ended steps states step =
    nat_lt 0 step && (not (step_at steps step).is_first && ends_change (slice_index_or states (step - 1) Began))

abbrev pub state_at : (steps : List StepOfPlan) → (after : List (List ℕ)) → ℕ → StepState
state_at steps after zero = state_of steps (waits_at after zero) zero false
state_at steps after (suc step) =
    state_of steps (waits_at after (suc step)) (suc step) (not (step_at steps (suc step)).is_first && ends_change (state_at steps after step))

-- The states of the first steps, that many.
abbrev pub first_states : (steps : List StepOfPlan) → (after : List (List ℕ)) → (count : ℕ) → List StepState
first_states steps after count = map (state_at steps after) (range_with_len 0 count)

abbrev pub states_of : (steps : List StepOfPlan) → (after : List (List ℕ)) → List StepState
states_of steps after = first_states steps after (length steps)
