use Rattle.stream_view.proofs.Parts.{parts_more, some_parts}
use Rattle.stream_view.proofs.svg.drawing.push_opening.Goals as goal

pub returns : goal.returns
returns c =
    let begun = c.args.markup.now in
    some_parts begun c.fixed.new.self _
    (parts_more begun c.text.new.self c.fixed.new.self _ _ (parts_more begun c.add.new.self c.text.new.self _ _ c.add.ensures c.text.ensures) c.fixed.ensures)
