use Rattle.laws_watch.proofs.DiagnosticRows.{diagnostic_told_whole}
use Rattle.laws_watch.proofs.telling.a_diagnostic_is_told_whole.Goals as goal

pub returns : goal.returns
returns c = diagnostic_told_whole
