use Rattle.apply_events.specs.Waits.Schedule.{schedule}
use Rattle.laws_run.proofs.AfterWaits.{come_after}
use Rattle.apply_events.proofs.Waits.StartedTurns.{were_started}
use Rattle.laws_run.proofs.time_lines.a_step_comes_after_what_it_waits_for.Goals as goal

pub returns : goal.returns
returns c w n events some few line = come_after w n (schedule w n) events (were_started w n some) line.interleaved few line.in_order
