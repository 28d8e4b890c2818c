use Rattle.laws_scripts.proofs.PlannedKinds.{kinds_of_change}
use Rattle.laws_scripts.proofs.steps_of_a_change_are_of_different_kinds.Goals as goal

pub returns : goal.returns
returns c = kinds_of_change
