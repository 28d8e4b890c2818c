use Rattle.laws_watch.proofs.ProgressLines.{progress_line}
use Rattle.laws_watch.proofs.progress.progress_changes_no_step.Goals as goal

pub returns-clause-bytes : goal.returns-clause-bytes
returns-clause-bytes c looks state find line is = (progress_line looks state find line is).bytes

pub returns-clause-state : goal.returns-clause-state
returns-clause-state c looks state find line is = (progress_line looks state find line is).state
