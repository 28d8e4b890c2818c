use Rattle.std.proofs.Common.{◌∷◌, [], subst}
use Rattle.stream_view.specs.Growth.{HasLines}
use Rattle.stream_view.proofs.text.line_buffer.LineBuffer.push_empty.Goals as goal

pub returns-clause-lines : goal.returns-clause-lines
returns-clause-lines c = subst (λ ps. HasLines c.args.self.now c.push.new.self (ps ∷ [])) c.line.ensures.empty c.push.ensures.lines
