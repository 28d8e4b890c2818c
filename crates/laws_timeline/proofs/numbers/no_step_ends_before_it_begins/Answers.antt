use Rattle.stream_timeline.proofs.Bounds.{intervals_ordered}
use Rattle.laws_timeline.proofs.numbers.no_step_ends_before_it_begins.Goals as goal

pub returns : goal.returns
returns c = intervals_ordered
