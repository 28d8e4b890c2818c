use Rattle.laws_validate.proofs.ScriptRefusals.{refusal_of_script}
use Rattle.laws_validate.proofs.against_runs.the_refusal_of_a_script_is_reported.Goals as goal

pub returns : goal.returns
returns c = refusal_of_script
