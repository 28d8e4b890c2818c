-- Events up to the first event of a step.
use Rattle.std.specs.Prelude.{ℕ, ◌==◌, ◌&&◌, Bool, true, false, List, [], ◌∷◌, filter, nat_le, nat_lt, if◌then◌else◌}
use Rattle.std.specs.List.{list_all}
use Rattle.std.specs.Option.{option_map_or}
use Rattle.apply_events.specs.declared.event.Event.{Event}
use Rattle.apply_events.specs.Course.{beginning_of, is_beginning}

-- The events of the steps before step `end`.
abbrev pub before_step : (end : ℕ) → List Event → List Event
before_step end events = filter (λ event. nat_lt event.step end) events

-- The list goes on after the events of the steps before `end`, if at all, with the first event of
-- step `end`. No event of an earlier step follows.
abbrev pub stops_at : (end : ℕ) → List Event → Bool
stops_at end [] = true
stops_at end (event ∷ events) =
    if nat_lt event.step end
    then stops_at end events
    else is_beginning event.what && event.step == end && list_all (λ other. nat_le end other.step) events

-- The list begins with the first event of that step.
abbrev pub begins_with : (step : ℕ) → List Event → Bool
begins_with step events = option_map_or (λ first. first == step) (beginning_of events) false
