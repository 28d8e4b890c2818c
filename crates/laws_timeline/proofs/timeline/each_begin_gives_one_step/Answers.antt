use Rattle.laws_timeline.proofs.BeginLines.{step_lines}
use Rattle.laws_timeline.proofs.timeline.each_begin_gives_one_step.Goals as goal

pub returns : goal.returns
returns c = step_lines
