use Rattle.apply_events.specs.Waits.Schedule.{schedule}
use Rattle.apply_events.proofs.Waits.StartedTurns.{were_started}
use Rattle.laws_run.proofs.time_lines.a_time_line_is_applied_in_turns.Goals as goal

pub returns : goal.returns
returns c w n events some line = record { started = schedule w n; were_started = were_started w n some; interleaved = line.interleaved }
