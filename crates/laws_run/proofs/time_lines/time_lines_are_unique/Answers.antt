use Rattle.apply_events.specs.Waits.Schedule.{schedule}
use Rattle.apply_events.specs.Waits.TimeLine.{lane_turns, lane_time_of}
use Rattle.apply_events.proofs.Waits.Order.{unique}
use Rattle.laws_run.proofs.time_lines.time_lines_are_unique.Goals as goal

pub returns : goal.returns
returns c w n first second p q =
    unique (lane_time_of (schedule w n)) n (lane_turns w (schedule w n)) first second p.interleaved q.interleaved p.in_order q.in_order
