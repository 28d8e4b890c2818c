use Rattle.laws_lines.proofs.Instants.{second_of_precise_text, second_of_text}
use Rattle.laws_lines.proofs.lines.timestamps_are_read_back.Goals as goal

pub returns-clause-default : goal.returns-clause-default
returns-clause-default c = second_of_text

pub returns-clause-terraform : goal.returns-clause-terraform
returns-clause-terraform c = second_of_precise_text
