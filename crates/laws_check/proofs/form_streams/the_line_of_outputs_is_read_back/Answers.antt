use Rattle.laws_check.proofs.FormOutputs.{outputs_line_read_back}
use Rattle.laws_check.proofs.form_streams.the_line_of_outputs_is_read_back.Goals as goal

pub returns : goal.returns
returns c = outputs_line_read_back
