use Rattle.laws_check.proofs.FormVerdict.{taken_in_form}
use Rattle.laws_check.proofs.in_form.whole_steps_are_accepted_in_terraforms_form.Goals as goal

pub returns : goal.returns
returns c plans work extras operation events ordinary whole as_many provisioned reads steps =
    taken_in_form work extras events ordinary whole as_many provisioned reads steps plans operation
