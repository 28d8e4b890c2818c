use Rattle.laws_command_check.proofs.CommandRead.{planning_warns}
use Rattle.laws_command_check.proofs.commands.only_reads_of_a_planning_warn.Goals as goal

pub returns : goal.returns
returns c command refresh given read is = planning_warns command refresh given read is
