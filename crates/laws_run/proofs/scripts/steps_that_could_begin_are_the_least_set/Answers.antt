use Rattle.laws_run.proofs.LeastSet.{least_set}
use Rattle.laws_run.proofs.scripts.steps_that_could_begin_are_the_least_set.Goals as goal

pub returns : goal.returns
returns c = λ script within k step below low. least_set script within k step below low
