use Rattle.apply_events.proofs.InTime.{in_time}
use Rattle.apply_events.proofs.laws.outputs_in_time_come_at_their_seconds.Goals as goal

pub returns : goal.returns
returns c d i since p h = in_time d i since p h
