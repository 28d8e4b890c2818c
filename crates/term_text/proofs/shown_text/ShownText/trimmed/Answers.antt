use Rattle.std.proofs.Common.{◌∙◌, ap, length, sym, take}
use Rattle.term_text.specs.Fitting.{without_blanks}
use Rattle.term_text.proofs.Blanks.{take-without_blanks}
use Rattle.term_text.proofs.shown_text.ShownText.trimmed.Goals as goal

pub returns : goal.returns
returns c =
    let inside = c.self.inside.characters.items in
    let is = c.without_blanks-len.ensures ∙ ap without_blanks c.deref.ensures.value in
    c.truncate.ensures.items ∙ ap (λ text. take (length text) inside) is ∙ take-without_blanks inside ∙ ap without_blanks c.self.view_is
