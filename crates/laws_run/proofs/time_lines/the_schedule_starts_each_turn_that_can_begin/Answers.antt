use Rattle.apply_events.proofs.Waits.StartedTurns.{were_started}
use Rattle.laws_run.proofs.time_lines.the_schedule_starts_each_turn_that_can_begin.Goals as goal

pub returns : goal.returns
returns c w n some = were_started w n some
