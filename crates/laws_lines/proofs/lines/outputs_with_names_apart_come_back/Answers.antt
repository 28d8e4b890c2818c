use Rattle.laws_lines.proofs.OutputNames.{told_apart}
use Rattle.laws_lines.proofs.lines.outputs_with_names_apart_come_back.Goals as goal

pub returns : goal.returns
returns c = told_apart
