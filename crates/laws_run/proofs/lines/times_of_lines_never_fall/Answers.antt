use Rattle.laws_run.proofs.Latest.{never_falls}
use Rattle.laws_run.proofs.lines.times_of_lines_never_fall.Goals as goal

pub returns : goal.returns
returns c = never_falls
