use Rattle.stream_view.specs.Texts.{heading_characters}
use Rattle.stream_view.proofs.Heads.{headed}
use Rattle.stream_view.proofs.text.drawing.push_head.Goals as goal

pub returns-clause-headed : goal.returns-clause-headed
returns-clause-headed c = λ none.
    headed c.args.line_buffer.now.style.width (heading_characters c.args.picture.now) c.args.line_buffer.now c.push_message.new.self c.push_overlap.new.line_buffer none
    (c.push_message.ensures.line _ c.heading-what.ensures) c.push_overlap.ensures.more
