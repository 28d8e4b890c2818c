use Rattle.laws_validate.proofs.Runs.{refusal_among}
use Rattle.laws_validate.proofs.against_runs.the_refusal_of_a_run_is_reported.Goals as goal

pub returns : goal.returns
returns c = refusal_among
