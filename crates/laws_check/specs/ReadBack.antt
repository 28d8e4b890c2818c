-- The messages that a checker reads back from the lines of events in the default form.
use Rattle.std.specs.Prelude.{ℕ, List, [], ◌∷◌, true, false, Some, flat_map, slice_get}
use Rattle.std.specs.Option.{option_map_or}
use Rattle.apply_model.specs.declared.plan.step_kind.StepKind.{StepKind}
use Rattle.apply_model.specs.declared.plan.step_kind.StepKind.TheVariants as kind
use Rattle.apply_plan.specs.Plan.SavedPlan.{SavedPlan}
use Rattle.stream_check.specs.declared.messages.action.Action.{Action}
use Rattle.stream_check.specs.declared.messages.action.Action.TheVariants as action
use Rattle.stream_message.specs.declared.stage.Stage.TheVariants as stage
use Rattle.stream_check.specs.declared.messages.timed_stage.TimedStage.TheVariants as timed_stage
use Rattle.stream_check.specs.Message.{Message, step, provision, diagnostic}
use Rattle.apply_events.specs.declared.event.Event.{Event}
use Rattle.apply_events.specs.declared.what.What.{What}
use Rattle.apply_events.specs.declared.what.What.TheVariants.{Start, Progress, Complete, Errored, ErrorNote, WarnNote, Halted, ProvisionStart, ProvisionOutput, ProvisionComplete, ProvisionErrored}
use Rattle.apply_events.specs.Step.{address_of, kinds_of}

-- what a step of that kind does to its object
abbrev pub action_of : StepKind → Action
action_of kind.Create = action.Create
action_of kind.Update = action.Update
action_of kind.Delete = action.Delete
action_of kind.Read = action.Read

-- the message of an event of a step with that action on the object of that address
abbrev pub read_back : (address : List ℕ) → Action → What → Message
read_back address does Start = step address does timed_stage.Start
read_back address does (Progress seconds) = step address does (timed_stage.Progress seconds)
read_back address does (Complete seconds) = step address does (timed_stage.Complete seconds)
read_back address does (Errored seconds) = step address does (timed_stage.Errored seconds)
read_back address does ErrorNote = diagnostic true (Some address)
read_back address does WarnNote = diagnostic false (Some address)
read_back address does (Halted phase hook) = diagnostic true (Some address)
read_back address does (ProvisionStart i) = provision address stage.Start
read_back address does (ProvisionOutput i line) = provision address stage.Progress
read_back address does (ProvisionComplete i) = provision address stage.Complete
read_back address does (ProvisionErrored i) = provision address stage.Errored

-- the message of an event; none if the plan has no such step
abbrev pub event_read_back : SavedPlan → Event → List Message
event_read_back plan event =
    option_map_or (λ kind. read_back (address_of plan event.change) (action_of kind) event.what ∷ [])
    (slice_get (kinds_of plan event.change) event.step) []

-- the messages of events, one after another
abbrev pub events_read_back : SavedPlan → List Event → List Message
events_read_back plan events = flat_map (event_read_back plan) events
