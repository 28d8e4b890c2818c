use Rattle.laws_timeline.proofs.NumberLaws.{work_le}
use Rattle.laws_timeline.proofs.numbers.work_is_at_most_the_peak_times_busy.Goals as goal

pub returns : goal.returns
returns c = work_le
