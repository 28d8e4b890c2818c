use Rattle.term_text.specs.Fitted.{shown_characters}
use Rattle.stream_view.proofs.svg.markup.Markup.shown.Goals as goal

pub returns : goal.returns
returns c = c.text_if_any.ensures (shown_characters c.args.bytes.now) c.of.ensures
