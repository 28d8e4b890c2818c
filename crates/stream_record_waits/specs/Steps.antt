-- Steps of a plan, with what a stream reports of them.
use Rattle.std.specs.Prelude.{ℕ, ◌-◌, ◌==◌, ◌&&◌, ◌||◌, List, Bool, true, false, nat_lt, is_some, slice_index_or, Option, Some, None, option_and_then, if◌then◌else◌}
use Rattle.std.specs.Option.{option_map_or}
use Rattle.std.specs.declared.alloc.Global.{Global}
use Rattle.std.specs.declared.vec.Vec.{Vec}
use Rattle.std.specs.Prelude.{map}
use Rattle.stream_record_waits.specs.declared.step_of_plan.RunFate.{RunFate}
use Rattle.stream_record_waits.specs.declared.step_of_plan.RunFate.TheVariants.{Done, Warned, Failed}
use Rattle.stream_record_waits.specs.declared.step_of_plan.StepOfPlan.{StepOfPlan}
use Rattle.stream_record_waits.specs.declared.step_of_plan.StepRun.{StepRun}

-- The step of that number. A step that the plan does not have did not begin.
abbrev pub step_at : (steps : List StepOfPlan) → ℕ → StepOfPlan
step_at steps step = slice_index_or steps step (record { is_first = false; run = None })

-- The number of the step before a step in its change.
abbrev pub step_before : (steps : List StepOfPlan) → ℕ → Option ℕ
step_before steps step = if step == 0 || (step_at steps step).is_first then None else Some (step - 1)

abbrev pub has_begun : (steps : List StepOfPlan) → ℕ → Bool
has_begun steps step = is_some (step_at steps step).run

-- The line after which a step is done: that of its end. A read that only warned has none. It is
-- done once it began.
abbrev pub done_line_of : RunFate → (line : ℕ) → (end : Option ℕ) → Option ℕ
done_line_of Done line end = end
done_line_of Warned line end = Some line
done_line_of Failed line end = None

abbrev pub done_line : StepRun → Option ℕ
done_line run = done_line_of run.fate run.line run.end

abbrev pub done_line_at : (steps : List StepOfPlan) → ℕ → Option ℕ
done_line_at steps step = option_and_then done_line (step_at steps step).run

-- The step was done before that line.
abbrev pub is_done_before : (steps : List StepOfPlan) → ℕ → (line : ℕ) → Bool
is_done_before steps step line = option_map_or (λ done. nat_lt done line) (done_line_at steps step) false

-- The lists in vectors.
abbrev pub lists_in : List (Vec ℕ Global) → List (List ℕ)
lists_in vectors = map (λ vector. vector.items) vectors

-- The line of the end of a step that completed. A read that only warned has none.
abbrev pub completion_of : RunFate → (end : Option ℕ) → Option ℕ
completion_of Done end = end
completion_of Warned end = None
completion_of Failed end = None

abbrev pub completion : StepRun → Option ℕ
completion run = completion_of run.fate run.end

abbrev pub completion_at : (steps : List StepOfPlan) → ℕ → Option ℕ
completion_at steps step = option_and_then completion (step_at steps step).run

-- The step failed.
abbrev pub is_failure : RunFate → Bool
is_failure Done = false
is_failure Warned = false
is_failure Failed = true

abbrev pub has_failed : StepOfPlan → Bool
has_failed step = option_map_or (λ run. is_failure run.fate) step.run false

-- The step, and the step before it in its change, both began.
abbrev pub both_began : (steps : List StepOfPlan) → ℕ → Bool
both_began steps step = has_begun steps step && option_map_or (has_begun steps) (step_before steps step) false

-- Two numbers that there are, and that are the same.
abbrev pub are_same : Option ℕ → Option ℕ → Bool
are_same first second = option_map_or (λ a. option_map_or (λ b. a == b) second false) first false

-- The message about a step before the start of this step is the end of the step before it in its
-- change.
abbrev pub follows_at_once : (steps : List StepOfPlan) → ℕ → Bool
follows_at_once steps step = are_same
    (option_and_then (λ run. run.previous) (step_at steps step).run)
    (option_and_then (λ before. option_and_then (λ run. run.end) (step_at steps before).run) (step_before steps step))
