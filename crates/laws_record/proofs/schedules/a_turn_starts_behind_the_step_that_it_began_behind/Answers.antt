use Rattle.laws_record.proofs.Behind.{starts_behind}
use Rattle.laws_record.proofs.schedules.a_turn_starts_behind_the_step_that_it_began_behind.Goals as goal

pub returns : goal.returns
returns c = λ basis course turns turn ready starts. starts_behind basis course turns turn ready starts
