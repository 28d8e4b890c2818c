use Rattle.laws_watch.proofs.LastRow.{verdict_last, verdict_shown}
use Rattle.laws_watch.proofs.verdict.the_verdict_is_told_last.Goals as goal

pub returns-clause-last : goal.returns-clause-last
returns-clause-last c = verdict_last

pub returns-clause-shown : goal.returns-clause-shown
returns-clause-shown c = verdict_shown
