-- The order in which events are written: first hook messages, then diagnostics.
use Rattle.std.specs.Prelude.{List, ◌++◌, filter, not}
use Rattle.apply_events.specs.declared.event.Event.{Event}
use Rattle.apply_events.specs.Diagnostics.{is_note}

-- the events whose messages come from hooks, in order
abbrev pub hook_messages_of : List Event → List Event
hook_messages_of events = filter (λ event. not (is_note event.what)) events

-- the events whose messages are diagnostics, in order
abbrev pub notes_of : List Event → List Event
notes_of events = filter (λ event. is_note event.what) events

-- events that were taken in this order, in the order in which they are written
abbrev pub as_written : List Event → List Event
as_written taken = hook_messages_of taken ++ notes_of taken
