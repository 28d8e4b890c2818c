use Rattle.apply_events.specs.Waits.Schedule.{schedule}
use Rattle.apply_events.proofs.Waits.StartedTurns.{were_started}
use Rattle.laws_run.proofs.WholeSteps.{whole}
use Rattle.laws_run.proofs.time_lines.steps_are_whole.Goals as goal

pub returns : goal.returns
returns c w n events some line = whole w n (schedule w n) events (were_started w n some) line.interleaved
