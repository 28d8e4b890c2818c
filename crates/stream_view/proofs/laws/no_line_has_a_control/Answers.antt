use Rattle.stream_view.proofs.Controls.{has_width}
use Rattle.stream_view.proofs.laws.no_line_has_a_control.Goals as goal

pub returns : goal.returns
returns c = has_width
