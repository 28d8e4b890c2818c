use Rattle.laws_waits.proofs.RecordedScripts.{has_steps_that_began}
use Rattle.laws_waits.proofs.scripts.a_recorded_script_has_the_steps_that_began.Goals as goal

pub returns : goal.returns
returns c = has_steps_that_began
