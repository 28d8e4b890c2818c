use Rattle.apply_events.proofs.Numbers.{rises_more}
use Rattle.apply_events.proofs.partition.a_rising_list_rises_on.Goals as goal

pub returns : goal.returns
returns c list number rise below = rises_more list number rise below
