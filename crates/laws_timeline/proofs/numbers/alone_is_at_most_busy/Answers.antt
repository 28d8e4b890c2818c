use Rattle.laws_timeline.proofs.NumberLaws.{alone_le_busy}
use Rattle.laws_timeline.proofs.numbers.alone_is_at_most_busy.Goals as goal

pub returns : goal.returns
returns c = alone_le_busy
