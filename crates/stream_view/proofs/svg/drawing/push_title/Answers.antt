use Rattle.stream_view.proofs.Parts.{parts_more}
use Rattle.stream_view.proofs.svg.drawing.push_title.Goals as goal

pub returns : goal.returns
returns c =
    let begun = c.args.markup.now in
    parts_more begun c.text.new.self c.fixed-2.new.self _ _ (parts_more begun c.fixed.new.self c.text.new.self _ _ c.fixed.ensures c.text.ensures) c.fixed-2.ensures
