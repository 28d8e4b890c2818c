-- Which step of the plan a start takes.
use Rattle.std.specs.Prelude.{ℕ, ℤ, ◌-◌, ◌&&◌, ◌||◌, List, [], ◌∷◌, ◌++◌, max, Bool, true, false, not, Option, Some, None, option_map, slice_set}
use Rattle.std.specs.List.{find}
use Rattle.std.specs.Option.{option_eq, option_map_or, option_or}
use Rattle.std.specs.Str.{bytes_eq}
use Rattle.apply_model.specs.declared.plan.step_kind.StepKind.{StepKind}
use Rattle.apply_model.specs.Plan.StepKind.{is_kind}
use Rattle.stream_record_steps.specs.declared.begun_step.BegunStep.{BegunStep}
use Rattle.stream_record_steps.specs.declared.begun_step.EndResult.{EndResult}
use Rattle.stream_record_steps.specs.declared.begun_step.EndResult.TheVariants.{Completed, Failed}
use Rattle.stream_record_steps.specs.declared.begun_step.StepEnd.{StepEnd}
use Rattle.stream_record_steps.specs.Begun.{Begun, begun_at, busy_count, is_left}
use Rattle.stream_record_steps.specs.Steps.{PlannedStep, is_first_step, steps_at}
use Rattle.stream_record_steps.specs.Strays.{with_stray}

abbrev pub is_failed : EndResult → Bool
is_failed (Completed id_key id) = false
is_failed Failed = true

-- The step began, and has not failed.
abbrev pub goes_well : BegunStep → Bool
goes_well step = not (option_map_or (λ end. is_failed end.result) step.end false)

-- The step may begin: it is the first of its change, or the step before it began and has not failed.
abbrev pub may_begin : List (Option BegunStep) → PlannedStep → Bool
may_begin by_step step = is_first_step step || option_map_or goes_well (begun_at by_step (step.place - 1)) false

-- A start of this kind may take the step.
abbrev pub is_free : List (Option BegunStep) → StepKind → PlannedStep → Bool
is_free by_step kind step = is_kind kind step.kind && (is_left by_step step.place && may_begin by_step step)

-- The object had that id before the change.
abbrev pub had_id : Option (List ℕ) → PlannedStep → Bool
had_id id step = option_eq bytes_eq step.change.prior_id id

-- The place of the step among these that a start takes: of those that it may take, the first whose object had
-- that id, else the first.
abbrev pub taken_place : List (Option BegunStep) → StepKind → (id : Option (List ℕ)) → List PlannedStep → Option ℕ
taken_place by_step kind id steps =
    option_map (λ step. step.place)
    (option_or (find (λ step. is_free by_step kind step && had_id id step) steps) (find (is_free by_step kind) steps))

-- What is known of a step by its start.
abbrev pub first_known : (line : ℕ) → (second : ℤ) → StepKind → (latest : Option ℕ) → BegunStep
first_known line second kind latest =
    record { kind = kind; line = line; second = second; previous = latest; facts = []; end = None }

-- The step at a place begins.
abbrev pub with_begun : (place : ℕ) → BegunStep → Begun → Begun
with_begun place step begun = let by_step = slice_set begun.by_step place (Some step) in
    record begun { by_step = by_step; begins = begun.begins ++ place ∷ []; most = max begun.most (busy_count by_step) }

-- A start takes a step of the plan, or is a stray.
abbrev pub after_start_of : (line : ℕ) → (second : ℤ) → StepKind → (address : List ℕ) → Option ℕ → Begun → Begun
after_start_of line second kind address None begun =
    record begun { strays = with_stray (record { line = line; kind = kind; address = address }) begun.strays }
after_start_of line second kind address (Some place) begun =
    with_begun place (first_known line second kind begun.latest) begun

abbrev pub after_start : (line : ℕ) → (second : ℤ) → StepKind → (address : List ℕ) → (id : Option (List ℕ)) → Begun → Begun
after_start line second kind address id begun =
    after_start_of line second kind address (taken_place begun.by_step kind id (steps_at begun.planned address)) (record begun { has_starts = true })
