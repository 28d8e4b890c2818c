use Rattle.laws_scripts.proofs.Entries.{read_of_steps}
use Rattle.laws_scripts.proofs.each_outcome_of_a_read_script_is_one_of_its_step.Goals as goal

-- src/lib.rt:16:1
pub returns : goal.returns
returns c = read_of_steps
