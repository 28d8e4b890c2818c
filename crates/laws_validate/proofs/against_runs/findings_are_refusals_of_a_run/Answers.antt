use Rattle.laws_validate.proofs.Runs.{refusals_of_run}
use Rattle.laws_validate.proofs.against_runs.findings_are_refusals_of_a_run.Goals as goal

pub returns : goal.returns
returns c = refusals_of_run
