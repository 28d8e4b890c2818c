use Rattle.term_text.specs.Fitted.{shown_characters}
use Rattle.stream_view.proofs.svg.markup.Markup.message.Goals as goal

pub returns : goal.returns
returns c = λ words says. c.text_if_any.ensures (shown_characters words) (c.shown.ensures words says)
