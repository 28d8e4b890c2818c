use Rattle.laws_check.proofs.FormWhole.{front_taken}
use Rattle.laws_check.proofs.in_form.every_message_before_the_end_is_accepted.Goals as goal

pub returns : goal.returns
returns c = front_taken
