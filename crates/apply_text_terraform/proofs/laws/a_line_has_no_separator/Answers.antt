use Rattle.apply_text_terraform.proofs.Separators.{no_separator}
use Rattle.apply_text_terraform.proofs.laws.a_line_has_no_separator.Goals as goal

pub returns : goal.returns
returns c = no_separator
