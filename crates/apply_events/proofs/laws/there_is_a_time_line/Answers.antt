use Rattle.apply_events.proofs.Waits.LanesRise.{time_line_is}
use Rattle.apply_events.proofs.laws.there_is_a_time_line.Goals as goal

pub returns : goal.returns
returns c w n some = time_line_is w n some
