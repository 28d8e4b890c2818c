use Rattle.laws_timeline.proofs.NumberLaws.{busy_le_work}
use Rattle.laws_timeline.proofs.numbers.busy_is_at_most_the_work.Goals as goal

pub returns : goal.returns
returns c = busy_le_work
