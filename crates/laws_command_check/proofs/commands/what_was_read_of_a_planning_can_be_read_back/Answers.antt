use Rattle.laws_command_check.proofs.CommandRead.{planning_texts}
use Rattle.laws_command_check.proofs.commands.what_was_read_of_a_planning_can_be_read_back.Goals as goal

pub returns : goal.returns
returns c command refresh given read is = planning_texts command refresh given read is
