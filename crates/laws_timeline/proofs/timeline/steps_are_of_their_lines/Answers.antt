use Rattle.laws_timeline.proofs.ItsLines.{steps_known}
use Rattle.laws_timeline.proofs.timeline.steps_are_of_their_lines.Goals as goal

pub returns : goal.returns
returns c = steps_known
