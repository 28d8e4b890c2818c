use Rattle.laws_texts.proofs.NotesOfTimeLines.{in_time, not_halted}
use Rattle.laws_texts.proofs.notes.no_diagnostic_comes_last.Goals as goal

pub returns-clause-in_time : goal.returns-clause-in_time
returns-clause-in_time c = in_time

pub returns-clause-not_halted : goal.returns-clause-not_halted
returns-clause-not_halted c = not_halted
