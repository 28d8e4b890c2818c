use Rattle.laws_validate.proofs.Scripts.{refusals_of_script}
use Rattle.laws_validate.proofs.against_runs.findings_of_scripts_are_refusals.Goals as goal

pub returns : goal.returns
returns c = refusals_of_script
