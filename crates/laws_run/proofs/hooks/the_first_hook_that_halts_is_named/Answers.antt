use Rattle.laws_run.proofs.FirstHalting.{first_halting_is, is_first_halting}
use Rattle.laws_run.proofs.hooks.the_first_hook_that_halts_is_named.Goals as goal

pub returns : goal.returns
returns c hooks call number = (is_first_halting hooks call number, first_halting_is hooks call number)
