use Rattle.std.proofs.Common.{sym, ap, ◌∙◌}
use Rattle.apply_events.specs.Lanes.LaneState.{lane_time_in}
use Rattle.apply_planning.specs.Lane.{begin_of, events_under_way}
use Rattle.apply_planning.proofs.lane.Lane.lane_time.Goals as goal

-- the time is that of the next event, with the round of the begin
pub returns-in-Some : goal.returns-in-Some
returns-in-Some c = c.lane_time_from.ensures ∙ ap (λ object. lane_time_in (begin_of object) (events_under_way object)) (sym c.in-Some.is)
