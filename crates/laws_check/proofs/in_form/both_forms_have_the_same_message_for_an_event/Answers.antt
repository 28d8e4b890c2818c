use Rattle.laws_check.proofs.FormLines.{event_read, plain_read, same_stated}
use Rattle.laws_check.proofs.in_form.both_forms_have_the_same_message_for_an_event.Goals as goal

pub returns-clause-applystream : goal.returns-clause-applystream
returns-clause-applystream c = plain_read

pub returns-clause-terraform : goal.returns-clause-terraform
returns-clause-terraform c = event_read

pub returns-clause-same : goal.returns-clause-same
returns-clause-same c = same_stated
