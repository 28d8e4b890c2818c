use Rattle.stream_view.proofs.Parts.{parts_more}
use Rattle.stream_view.proofs.svg.markup.Markup.line_of.Goals as goal

pub returns : goal.returns
returns c = λ words says.
    let begun = c.args.self.now in
    parts_more begun c.message.new.self c.fixed.new.self _ _
    (parts_more begun c.begin_text.new.self c.message.new.self _ _ c.begin_text.ensures (c.message.ensures words says)) c.fixed.ensures
