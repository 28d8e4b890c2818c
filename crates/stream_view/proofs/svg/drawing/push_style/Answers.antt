use Rattle.stream_view.proofs.Parts.{some_parts}
use Rattle.stream_view.proofs.svg.drawing.push_style.Goals as goal

pub returns : goal.returns
returns c = some_parts c.args.markup.now c.add.new.self _ c.add.ensures
