use Rattle.laws_timeline.proofs.NumberLaws.{work_is}
use Rattle.laws_timeline.proofs.numbers.work_is_the_number_under_way_times_the_length.Goals as goal

pub returns : goal.returns
returns c = work_is
