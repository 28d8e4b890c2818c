-- Which steps run in one turn with the step before them in their change. Both began.
use Rattle.std.specs.Prelude.{ℕ, ◌==◌, ◌&&◌, List, Bool, length, map}
use Rattle.std.specs.List.{range_with_len}
use Rattle.stream_record_waits.specs.declared.step_of_plan.StepOfPlan.{StepOfPlan}
use Rattle.stream_record_waits.specs.Graph.{waits_at}
use Rattle.stream_record_waits.specs.Steps.{both_began, follows_at_once}

-- With a graph, the steps that wait for no other.
abbrev pub joined_by_graph : (steps : List StepOfPlan) → (after : List (List ℕ)) → (count : ℕ) → List Bool
joined_by_graph steps after count = map (λ step. both_began steps step && length (waits_at after step) == 0) (range_with_len 0 count)

-- Without a graph, the steps that follow the step before them at once.
abbrev pub joined_by_lines : (steps : List StepOfPlan) → (count : ℕ) → List Bool
joined_by_lines steps count = map (λ step. both_began steps step && follows_at_once steps step) (range_with_len 0 count)
