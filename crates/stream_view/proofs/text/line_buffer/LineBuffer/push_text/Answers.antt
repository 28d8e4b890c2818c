use Rattle.std.proofs.Common.{◌∙◌, ◌∷◌, [], ◌++◌, ap}
use Rattle.stream_view.specs.Growth.{lines_in}
use Rattle.stream_view.proofs.text.line_buffer.LineBuffer.push_text.Goals as goal

pub returns-clause-line : goal.returns-clause-line
returns-clause-line c = λ whole.
    let pushed = c.push.ensures.lines whole in
    (pushed.0, pushed.1 ∙ ap (λ ps. lines_in c.args.self.now ++ ps ∷ []) (c.text_line-line.ensures.pieces (c.push.ensures.line whole)))
