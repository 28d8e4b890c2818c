use Rattle.laws_waits.specs.Scripts.{recorded_script}
use Rattle.laws_waits.proofs.AsWritten.{goes_as_written}
use Rattle.laws_waits.proofs.GoesAgain.{goes_again, goes_with_graph}
use Rattle.laws_waits.proofs.scripts.a_work_goes_alike_with_its_recorded_script.Goals as goal

pub returns : goal.returns
returns c = let never = c.a_step_that_fails_is_never_done.ensures in record {
  script = λ work lanes begun recorded graph choices after early known begins are. goes_again never work lanes begun recorded graph known choices after early begins are;
  text = λ work lanes begun recorded graph choices after early known begins are.
      goes_as_written work (recorded_script work.plan begun recorded after) lanes (goes_again never work lanes begun recorded graph known choices after early begins are);
  known = λ work lanes begun recorded after known.
      goes_as_written work (recorded_script work.plan begun recorded after) lanes (goes_with_graph never work lanes begun recorded after known);
}
