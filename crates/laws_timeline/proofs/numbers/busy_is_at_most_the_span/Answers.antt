use Rattle.laws_timeline.proofs.InSpan.{busy_le_span}
use Rattle.laws_timeline.proofs.numbers.busy_is_at_most_the_span.Goals as goal

pub returns : goal.returns
returns c = busy_le_span
