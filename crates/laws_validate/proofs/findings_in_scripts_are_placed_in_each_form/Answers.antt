use Rattle.laws_validate.proofs.WarnedInForm.{placed_in_form}
use Rattle.laws_validate.proofs.findings_in_scripts_are_placed_in_each_form.Goals as goal

pub returns : goal.returns
returns c = placed_in_form
