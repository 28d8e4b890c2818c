use Rattle.std.proofs.Common.{◌≤◌, ◌-◌, ◌∷◌, [], ℕ, List, subst}
use Rattle.term_text.specs.Columns.{columns_of}
use Rattle.stream_view.specs.Growth.{HasLines}
use Rattle.stream_view.specs.Lines.{text_line}
use Rattle.stream_view.proofs.text.line_buffer.LineBuffer.push_message.Goals as goal

pub returns-in-Ok-clause-line : goal.returns-in-Ok-clause-line
returns-in-Ok-clause-line c = λ words says.
    let width = c.args.self.now.style.width in
    subst (λ (t : List ℕ). columns_of t ≤ width - c.args.indent
    → HasLines c.args.self.now c.push_wrapped.new.self (text_line width c.args.indent c.args.rendition t ∷ [])) (c.in-Ok.ensures words says)
    c.push_wrapped.ensures.line
