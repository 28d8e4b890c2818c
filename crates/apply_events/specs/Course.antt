-- What a runner applies, and how far it is, by the events still to come.
use Rattle.std.specs.Prelude.{◌≡◌, ℕ, ◌+◌, ◌-◌, List, [], ◌∷◌, filter, sum_by, Bool, true, false, ◌==◌, Option, Some, None, if◌then◌else◌}
use Rattle.std.specs.List.{list_any}
use Rattle.apply_hooks.specs.declared.phase.Phase.TheVariants.{Pre, PostDone, PostFailed}
use Rattle.apply_events.specs.declared.event.Event.{Event}
use Rattle.apply_events.specs.declared.what.What.{What}
use Rattle.apply_events.specs.declared.what.What.TheVariants.{Start, Progress, Complete, Errored, ErrorNote, WarnNote, Halted, ProvisionStart, ProvisionOutput, ProvisionComplete, ProvisionErrored}
use Rattle.apply_events.specs.ChangeEvents.{begun, span_of}
use Rattle.apply_events.specs.Step.{Step, Work, steps_of}
use Rattle.apply_events.specs.StepEvents.{step_time}

-- The work, the worker, the change that it applies, and when the change begins.
pub record Course : Type 0 where
  pub work : Work
  pub worker : ℕ
  pub change : ℕ
  pub begin : ℕ

-- The item is the first of the list `before`, and `after` is the rest of that list. Without an item
-- both lists are empty.
abbrev pub GivesNext : {X : Type 0} → List X → Option X → List X → Type 0
GivesNext before None after = (before ≡ []) × (after ≡ [])
GivesNext before (Some first) after = before ≡ first ∷ after

-- The event is the first of a step.
abbrev pub is_beginning : What → Bool
is_beginning Start = true
is_beginning (Halted Pre hook) = true
is_beginning (Halted PostDone hook) = false
is_beginning (Halted PostFailed hook) = false
is_beginning (Progress seconds) = false
is_beginning (Complete seconds) = false
is_beginning (Errored seconds) = false
is_beginning ErrorNote = false
is_beginning WarnNote = false
is_beginning (ProvisionStart provisioner) = false
is_beginning (ProvisionOutput provisioner line) = false
is_beginning (ProvisionComplete provisioner) = false
is_beginning (ProvisionErrored provisioner) = false

-- The step that begins with the first event of the list, if one does.
abbrev pub beginning_of : List Event → Option ℕ
beginning_of [] = None
beginning_of (event ∷ events) = if is_beginning event.what then Some event.step else None

-- The step has an event in the list.
abbrev pub has_event_in : List Event → Step → Bool
has_event_in events step = list_any (λ event. event.step == step.number) events

-- The times of the steps that have an event in the list, added up.
abbrev pub time_in : Course → List Event → ℕ
time_in course events = sum_by step_time (filter (has_event_in events) (begun (steps_of course.work course.change)))

-- The end of the change so far: its begin and its span, less the times of the steps that still have
-- an event to come.
abbrev pub ended_of : Course → List Event → ℕ
ended_of course to_come = course.begin + span_of course.work course.change - time_in course to_come
