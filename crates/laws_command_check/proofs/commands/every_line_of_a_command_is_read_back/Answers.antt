use Rattle.laws_command_check.proofs.CommandStream.{command_line_read_back}
use Rattle.laws_command_check.proofs.commands.every_line_of_a_command_is_read_back.Goals as goal

pub returns : goal.returns
returns c inputs lines applies plan script extras operation events texts heads small fits = command_line_read_back inputs lines plan script extras operation texts heads small events fits applies
