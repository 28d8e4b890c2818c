-- What a step waits for where there is no graph.
use Rattle.std.specs.Prelude.{ℕ, ◌==◌, ◌&&◌, List, Bool, true, count_by, length, map, not, option_to_list, position, slice_index_or, Option, None, if◌then◌else◌}
use Rattle.std.specs.List.{range_with_len}
use Rattle.std.specs.Option.{option_map_or}
use Rattle.stream_record_waits.specs.declared.step_of_plan.StepOfPlan.{StepOfPlan}
use Rattle.stream_record_waits.specs.Steps.{are_same, both_began, follows_at_once, has_begun, has_failed, step_before}

-- The one step that failed. There is none where several failed, or where waits are not guessed.
abbrev pub cause_of : (steps : List StepOfPlan) → (guesses : Bool) → Option ℕ
cause_of steps guesses = if guesses && count_by has_failed steps == 1 then position has_failed steps else None

-- The first step of a change that did not begin waits for the one that failed, unless that is the
-- step before it.
abbrev pub guessed_wait : (steps : List StepOfPlan) → (cause : Option ℕ) → ℕ → Option ℕ
guessed_wait steps cause step =
    if option_map_or (has_begun steps) (step_before steps step) true && not (are_same cause (step_before steps step)) then cause else None

-- The second step of a change that did not follow the first one at once waits for the step behind
-- which it begins.
abbrev pub queue_wait : (steps : List StepOfPlan) → (behind : List (Option ℕ)) → ℕ → Option ℕ
queue_wait steps behind step =
    if both_began steps step && not (follows_at_once steps step) then slice_index_or behind step None else None

abbrev pub wait_without_graph : (steps : List StepOfPlan) → (behind : List (Option ℕ)) → (cause : Option ℕ) → ℕ → Option ℕ
wait_without_graph steps behind cause step =
    if has_begun steps step then queue_wait steps behind step else guessed_wait steps cause step

-- The waits of the first steps, that many.
abbrev pub first_without_graph : (steps : List StepOfPlan) → (behind : List (Option ℕ)) → (cause : Option ℕ) → (count : ℕ) → List (List ℕ)
first_without_graph steps behind cause count =
    map (λ step. option_to_list (wait_without_graph steps behind cause step)) (range_with_len 0 count)

-- The waits of all steps.
abbrev pub waits_without_graph : (steps : List StepOfPlan) → (behind : List (Option ℕ)) → (guesses : Bool) → List (List ℕ)
waits_without_graph steps behind guesses = first_without_graph steps behind (cause_of steps guesses) (length steps)
