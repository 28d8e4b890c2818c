use Rattle.laws_command_check.proofs.Commanded.{command_taken}
use Rattle.laws_command_check.proofs.commands.every_message_of_a_command_is_accepted.Goals as goal

pub returns : goal.returns
returns c plans command lanes read start hooks operation events some may steps =
    command_taken plans command lanes read start hooks operation events may (c.a_planning_is_of_whole_steps.ensures read.told lanes some) steps
