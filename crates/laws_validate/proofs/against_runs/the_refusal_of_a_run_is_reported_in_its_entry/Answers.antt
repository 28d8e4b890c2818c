use Rattle.laws_validate.proofs.ScriptRefusals.{refusal_in_entry}
use Rattle.laws_validate.proofs.against_runs.the_refusal_of_a_run_is_reported_in_its_entry.Goals as goal

pub returns : goal.returns
returns c = refusal_in_entry
