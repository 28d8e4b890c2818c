use Rattle.stream_play.proofs.Dues.{from_the_first}
use Rattle.stream_play.proofs.laws.at_speed_1_a_due_is_the_time_from_the_first.Goals as goal

pub returns : goal.returns
returns c = from_the_first
