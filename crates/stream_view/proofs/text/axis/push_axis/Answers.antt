use Rattle.stream_view.proofs.Heads.{lines_then}
use Rattle.stream_view.proofs.text.axis.push_axis.Goals as goal

pub returns-clause-more : goal.returns-clause-more
returns-clause-more c = lines_then c.args.line_buffer.now c.push_empty.new.self c.push.new.self _ _ c.push_empty.ensures.lines c.push.ensures.lines
