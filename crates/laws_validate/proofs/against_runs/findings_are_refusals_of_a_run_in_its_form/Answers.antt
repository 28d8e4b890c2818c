use Rattle.laws_validate.proofs.FormRuns.{refusals_in_form}
use Rattle.laws_validate.proofs.against_runs.findings_are_refusals_of_a_run_in_its_form.Goals as goal

pub returns : goal.returns
returns c = refusals_in_form
