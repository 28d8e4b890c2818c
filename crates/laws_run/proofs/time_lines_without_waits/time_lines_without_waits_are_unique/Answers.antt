use Rattle.apply_events.specs.Lanes.TimeLine.{lane_events}
use Rattle.apply_events.proofs.TimeLines.Order.{unique}
use Rattle.laws_run.proofs.time_lines_without_waits.time_lines_without_waits_are_unique.Goals as goal

pub returns : goal.returns
returns c work n first second p q = unique n (lane_events work n) first second p.interleaved q.interleaved p.in_order q.in_order
