use Rattle.laws_outputs.proofs.Again.{come_again}
use Rattle.laws_outputs.proofs.Read.{known_in_order, script_read}
use Rattle.laws_outputs.proofs.outputs.outputs_that_were_read_come_again.Goals as goal

pub returns : goal.returns
returns c = record {
  in_order = λ plan script stated is.
      (known_in_order plan stated.details is.details_are, (script_read stated.details.outputs script stated.extras is.extras_are).0);
  without_error = λ plan script stated is. (script_read stated.details.outputs script stated.extras is.extras_are).1;
  shown = λ plan script stated is.
      let read = script_read stated.details.outputs script stated.extras is.extras_are in
      come_again stated.details.outputs (known_in_order plan stated.details is.details_are) stated.extras.outputs read.0 0 read.1;
}
