use Rattle.laws_texts.proofs.HookLines as plain
use Rattle.laws_texts.proofs.Terraform.HookLines as terraform
use Rattle.laws_texts.proofs.lines.hook_messages_of_steps_that_run_alike_are_the_same.Goals as goal

pub returns-clause-plain : goal.returns-clause-plain
returns-clause-plain c = plain.same_line

pub returns-clause-terraform : goal.returns-clause-terraform
returns-clause-terraform c = terraform.same_line
