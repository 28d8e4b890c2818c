use Rattle.std.proofs.Common.{sym, ap, ◌∙◌}
use Rattle.apply_events.specs.Lanes.Lane.{begin_of, events_of}
use Rattle.apply_events.specs.Lanes.LaneState.{lane_time_in}
use Rattle.apply_events.proofs.lanes.lane.Lane.lane_time.Goals as goal

-- the time is that of the next event, with the round of the begin
pub returns-in-Some : goal.returns-in-Some
returns-in-Some g c = c.lane_time_from.ensures ∙ ap (λ turn. lane_time_in (begin_of turn) (events_of turn)) (sym c.in-Some.is)
