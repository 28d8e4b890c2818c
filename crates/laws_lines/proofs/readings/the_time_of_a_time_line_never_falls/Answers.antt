use Rattle.laws_lines.proofs.TimeLines.{lanes_never_fall, waits_never_fall}
use Rattle.laws_lines.proofs.readings.the_time_of_a_time_line_never_falls.Goals as goal

pub returns-clause-of_changes : goal.returns-clause-of_changes
returns-clause-of_changes c = lanes_never_fall

pub returns-clause-of_steps : goal.returns-clause-of_steps
returns-clause-of_steps c = waits_never_fall
