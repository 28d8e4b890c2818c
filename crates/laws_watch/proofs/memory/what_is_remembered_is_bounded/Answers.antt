use Rattle.laws_watch.proofs.Kept.{lengths_few, steps_begun}
use Rattle.laws_watch.proofs.memory.what_is_remembered_is_bounded.Goals as goal

pub returns-clause-steps : goal.returns-clause-steps
returns-clause-steps c = steps_begun

pub returns-clause-lengths : goal.returns-clause-lengths
returns-clause-lengths c = lengths_few
