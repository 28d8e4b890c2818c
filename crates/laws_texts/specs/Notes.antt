-- Diagnostics of steps, after the ends of their steps.
use Rattle.std.specs.Prelude.{◌≡◌, ◌||◌, Bool, false, List, Option, Some, None, filter, if◌then◌else◌, option_map}
use Rattle.apply_model.specs.declared.script.outcome.Outcome.{Outcome}
use Rattle.apply_model.specs.Script.Outcome.{fails, is_warned}
use Rattle.apply_model.specs.Script.OutcomeMap.{OutcomeMap, outcome_of}
use Rattle.apply_events.specs.declared.event.Event.{Event}
use Rattle.apply_events.specs.declared.what.What.{What}
use Rattle.apply_events.specs.declared.what.What.TheVariants.{ErrorNote, WarnNote}
use Rattle.apply_events.specs.Step.{has_warning}
use Rattle.apply_events.specs.Totals.{is_complete, is_errored}

-- The event ends its step.
abbrev pub is_end : What → Bool
is_end what = is_complete what || is_errored what

-- The events that end their steps, in order.
abbrev pub ends_of : List Event → List Event
ends_of events = filter (λ event. is_end event.what) events

-- The diagnostic after the end of a step: the error of a step that fails, else its warning, if it
-- warns.
abbrev pub note_of : (fails warns : Bool) → Option What
note_of fails warns = if fails then Some ErrorNote else if warns then Some WarnNote else None

abbrev pub note_of_outcome : Outcome → Option What
note_of_outcome outcome = note_of (fails outcome) (has_warning outcome.result)

-- The diagnostic after the event that ends a step: in the same lane, and at the same time.
abbrev pub note_after : OutcomeMap → (end : Event) → Option Event
note_after script end =
    option_map (λ (what : What). record end { what = what }) (note_of_outcome (outcome_of script end.change end.step))

-- The step of the event has an end in the stream: it does not only warn.
abbrev pub HasAnEnd : OutcomeMap → Event → Type 0
HasAnEnd script event = is_warned (outcome_of script event.change event.step).result ≡ false
