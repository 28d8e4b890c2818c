use Rattle.laws_validate.proofs.RefusalsPlaced.{script_placed}
use Rattle.laws_validate.proofs.findings_in_scripts_are_placed.Goals as goal

pub returns : goal.returns
returns c = script_placed
