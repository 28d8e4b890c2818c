use Rattle.laws_validate.proofs.FormRefusals.{refusal_in_form}
use Rattle.laws_validate.proofs.against_runs.the_refusal_of_a_run_in_terraforms_form_is_reported.Goals as goal

pub returns : goal.returns
returns c = refusal_in_form
