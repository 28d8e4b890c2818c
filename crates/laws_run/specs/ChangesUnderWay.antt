-- Changes that are under way at a place of a list of events, and changes that are under way at a
-- time.
use Rattle.std.specs.Prelude.{ℕ, ◌==◌, ◌&&◌, ◌||◌, Bool, true, false, List, count_by, length, nat_le, nat_lt, not}
use Rattle.std.specs.List.{list_any, range_with_len}
use Rattle.apply_model.specs.declared.script.outcome.Outcome.{Outcome}
use Rattle.apply_model.specs.Script.Outcome.{fails, is_warned}
use Rattle.apply_model.specs.Script.OutcomeMap.{OutcomeMap, outcome_of}
use Rattle.apply_events.specs.declared.event.Event.{Event}
use Rattle.apply_events.specs.declared.what.What.{What}
use Rattle.apply_events.specs.declared.what.What.TheVariants.{Start, WarnNote}
use Rattle.apply_events.specs.Step.{Work}
use Rattle.apply_events.specs.Totals.{is_complete, is_errored}

-- ---- at a place: after some events, and before all others

-- the event is the start of a step
abbrev pub is_start : What → Bool
is_start Start = true
is_start _ = false

-- the event is the end of a step: its completion or its failure
abbrev pub is_end : What → Bool
is_end what = is_complete what || is_errored what

-- the event is a warning
abbrev pub is_warning : What → Bool
is_warning WarnNote = true
is_warning _ = false

-- a step with this outcome only warns: the stream has no end of it
abbrev pub only_warns : Outcome → Bool
only_warns outcome = is_warned outcome.result && not (fails outcome)

-- a step is over with this event: with its end, or with its warning if the step only warns
abbrev pub is_over_with : OutcomeMap → Event → Bool
is_over_with script event =
    is_end event.what || (is_warning event.what && only_warns (outcome_of script event.change event.step))

-- how many steps of change c have started
abbrev pub starts_of : (c : ℕ) → List Event → ℕ
starts_of c events = count_by (λ event. event.change == c && is_start event.what) events

-- how many steps of change c are over: completed, failed, or warned of if they only warn
abbrev pub ends_of : Work → (c : ℕ) → List Event → ℕ
ends_of work c events = count_by (λ event. event.change == c && is_over_with work.script event) events

-- after these events a step of change c has started and is not over
abbrev pub is_open_after : Work → List Event → (c : ℕ) → Bool
is_open_after work events c = nat_lt (ends_of work c events) (starts_of c events)

-- how many of the plan's changes have such a step
abbrev pub open_after : Work → List Event → ℕ
open_after work events = count_by (is_open_after work events) (range_with_len 0 (length work.plan.changes))

-- ---- at a time

-- change c has an event by the time `moment`
abbrev pub has_event_by : (moment c : ℕ) → List Event → Bool
has_event_by moment c events = list_any (λ event. event.change == c && nat_le event.at moment) events

-- change c has an event after the time `moment`
abbrev pub has_event_after : (moment c : ℕ) → List Event → Bool
has_event_after moment c events = list_any (λ event. event.change == c && nat_lt moment event.at) events

-- change c waits at the time `moment`: it has events, and all of them come later
abbrev pub waits_at : (moment c : ℕ) → List Event → Bool
waits_at moment c events = has_event_after moment c events && not (has_event_by moment c events)

-- change c is under way at the time `moment`: it has an event by then and a later event
abbrev pub is_under_way_at : (moment c : ℕ) → List Event → Bool
is_under_way_at moment c events = has_event_by moment c events && has_event_after moment c events
