use Rattle.laws_timeline.proofs.StoredBytes.{line_same, progress_is_not_stored}
use Rattle.laws_timeline.proofs.timeline.progress_takes_no_memory.Goals as goal

pub returns-clause-lines : goal.returns-clause-lines
returns-clause-lines c = line_same

pub returns-clause-progress : goal.returns-clause-progress
returns-clause-progress c = λ line timeline progress. line_same line timeline (progress_is_not_stored line progress)
