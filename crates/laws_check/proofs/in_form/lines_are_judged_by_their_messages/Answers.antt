use Rattle.laws_check.proofs.LinesAccepted.{lines_judged}
use Rattle.laws_check.proofs.in_form.lines_are_judged_by_their_messages.Goals as goal

pub returns-clause-verdict : goal.returns-clause-verdict
returns-clause-verdict c plans lines messages all say short is = (lines_judged plans lines messages all say short is).0

pub returns-clause-messages : goal.returns-clause-messages
returns-clause-messages c plans lines messages all say short is = (lines_judged plans lines messages all say short is).1
