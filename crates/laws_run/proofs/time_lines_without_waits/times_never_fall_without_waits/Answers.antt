use Rattle.laws_run.proofs.TimeLines.Along.{never_fall}
use Rattle.laws_run.proofs.time_lines_without_waits.times_never_fall_without_waits.Goals as goal

pub returns : goal.returns
returns c work n events line = never_fall events line.in_order
