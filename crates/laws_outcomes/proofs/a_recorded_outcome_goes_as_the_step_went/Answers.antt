use Rattle.laws_outcomes.proofs.Recorded.{told_again}
use Rattle.laws_outcomes.proofs.a_recorded_outcome_goes_as_the_step_went.Goals as goal

pub returns : goal.returns
returns c = told_again
