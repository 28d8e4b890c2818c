use Rattle.apply_text_terraform.proofs.Absent.{feeds_in_line}
use Rattle.apply_text_terraform.proofs.laws.a_line_has_one_line_feed.Goals as goal

pub returns : goal.returns
returns c = feeds_in_line
