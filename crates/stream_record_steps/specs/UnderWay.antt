-- Which step under way a line is of.
use Rattle.std.specs.Prelude.{ℕ, ℤ, pos, ◌+ℤ◌, ◌&&◌, List, [], ◌∷◌, ◌++◌, filter, fold, map, nat_lt, Bool, true, false, if◌then◌else◌, Option, Some, None, is_none, option_map, slice_set}
use Rattle.std.specs.Option.{option_map_or, option_or}
use Rattle.std.specs.Ordering.{int_eq}
use Rattle.apply_model.specs.declared.plan.step_kind.StepKind.{StepKind}
use Rattle.apply_model.specs.declared.plan.step_kind.StepKind.TheVariants.{Create, Delete}
use Rattle.apply_model.specs.Plan.StepKind.{is_kind}
use Rattle.stream_record_steps.specs.declared.begun_step.BegunStep.{BegunStep}
use Rattle.stream_record_steps.specs.declared.begun_step.StepEnd.{StepEnd}
use Rattle.stream_record_steps.specs.declared.sought.Sought.{Sought}
use Rattle.stream_record_steps.specs.declared.sought.Sought.TheVariants.{Kind, Timely, ProvisionedDelete}
use Rattle.stream_record_steps.specs.declared.step_facts.StepFact.{StepFact}
use Rattle.stream_record_steps.specs.Begun.{Begun, begun_at}
use Rattle.stream_record_steps.specs.Steps.{PlannedStep, is_first_step}
use Rattle.stream_record_steps.specs.Tallies.{with_line}

-- The step began so many seconds before that second.
abbrev pub begins_at : (seconds : ℕ) → (second : ℤ) → BegunStep → Bool
begins_at seconds second step = int_eq (step.second +ℤ pos seconds) second

-- A script may give the delete provisioners: it is the first step of the change of a current object.
abbrev pub may_have_provisioners : PlannedStep → Bool
may_have_provisioners step = is_first_step step && is_none step.change.deposed

abbrev pub meets : Sought → PlannedStep → BegunStep → Bool
meets (Kind kind) step begun = is_kind kind step.kind
meets (Timely kind seconds second) step begun = is_kind kind step.kind && begins_at seconds second begun
meets ProvisionedDelete step begun = is_kind Delete step.kind && may_have_provisioners step

-- The step is under way, and one that is sought.
abbrev pub is_sought : List (Option BegunStep) → Sought → PlannedStep → Bool
is_sought by_step sought step = option_map_or (λ begun. is_none begun.end && meets sought step begun) (begun_at by_step step.place) false

-- The line of the start of the step at a place.
abbrev pub start_line : List (Option BegunStep) → (place : ℕ) → ℕ
start_line by_step place = option_map_or (λ begun. begun.line) (begun_at by_step place) 0

-- Of two steps, the place of the one that began first.
abbrev pub earlier : List (Option BegunStep) → Option ℕ → (place : ℕ) → Option ℕ
earlier by_step None place = Some place
earlier by_step (Some first) place =
    if nat_lt (start_line by_step place) (start_line by_step first) then Some place else Some first

-- Of the steps at these places, the place of the one that began first.
abbrev pub earliest : List (Option BegunStep) → (places : List ℕ) → Option ℕ
earliest by_step places = fold (earlier by_step) None places

-- Of the steps among these that are under way and sought, the place of the one that began first.
abbrev pub sought_place : List (Option BegunStep) → Sought → List PlannedStep → Option ℕ
sought_place by_step sought steps = earliest by_step (map (λ step. step.place) (filter (is_sought by_step sought) steps))

-- The place of the step that progress or an end is of: one whose seconds fit, else any of its kind.
abbrev pub timed_place : List (Option BegunStep) → StepKind → (seconds : ℕ) → (second : ℤ) → List PlannedStep → Option ℕ
timed_place by_step kind seconds second steps =
    option_or (sought_place by_step (Timely kind seconds second) steps) (sought_place by_step (Kind kind) steps)

-- The place of the step that a provisioner is of: a create, else a delete that may have some, else
-- any delete.
abbrev pub provisioned_place : List (Option BegunStep) → List PlannedStep → Option ℕ
provisioned_place by_step steps =
    option_or (sought_place by_step (Kind Create) steps)
    (option_or (sought_place by_step ProvisionedDelete steps) (sought_place by_step (Kind Delete) steps))

-- A line of no step that is under way, or one that is malformed.
abbrev pub with_odd : (line : ℕ) → Begun → Begun
with_odd line begun = record begun { odd = with_line line begun.odd }

-- What is known of the step at a place changes.
abbrev pub changed_at : (place : ℕ) → (BegunStep → BegunStep) → List (Option BegunStep) → List (Option BegunStep)
changed_at place change by_step = slice_set by_step place (option_map change (begun_at by_step place))

abbrev pub plus_fact : StepFact → BegunStep → BegunStep
plus_fact fact step = record step { facts = step.facts ++ fact ∷ [] }

abbrev pub ended : StepEnd → BegunStep → BegunStep
ended end step = record step { end = Some end }

abbrev pub with_fact : (place : ℕ) → StepFact → List (Option BegunStep) → List (Option BegunStep)
with_fact place fact by_step = changed_at place (plus_fact fact) by_step

abbrev pub with_end : (place : ℕ) → StepEnd → List (Option BegunStep) → List (Option BegunStep)
with_end place end by_step = changed_at place (ended end) by_step

-- A line states a fact of the step at a place; it is odd if there is none.
abbrev pub after_fact : (line : ℕ) → StepFact → Option ℕ → Begun → Begun
after_fact line fact None begun = with_odd line begun
after_fact line fact (Some place) begun = record begun { by_step = with_fact place fact begun.by_step }

-- The step at a place ends; the line is odd if there is none.
abbrev pub after_end : StepEnd → Option ℕ → Begun → Begun
after_end end None begun = with_odd end.line begun
after_end end (Some place) begun =
    record begun { by_step = with_end place end begun.by_step; ends = begun.ends ++ place ∷ [] }
