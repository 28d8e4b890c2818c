use Rattle.apply_text.proofs.Feeds.{in_line}
use Rattle.laws_run.proofs.lines.a_line_has_one_line_feed.Goals as goal

pub returns : goal.returns
returns c = in_line
