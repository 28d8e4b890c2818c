use Rattle.apply_events.specs.Waits.Schedule.{schedule}
use Rattle.laws_run.proofs.Along.{never_fall}
use Rattle.laws_run.proofs.time_lines.times_of_a_time_line_never_fall.Goals as goal

pub returns : goal.returns
returns c w n events line = never_fall (schedule w n) events line.in_order
