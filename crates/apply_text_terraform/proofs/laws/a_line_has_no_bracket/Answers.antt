use Rattle.apply_text_terraform.proofs.Absent.{in_line}
use Rattle.apply_text_terraform.proofs.laws.a_line_has_no_bracket.Goals as goal

pub returns : goal.returns
returns c = in_line
