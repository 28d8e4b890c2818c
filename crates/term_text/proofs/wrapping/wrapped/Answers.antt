use Rattle.term_text.proofs.Lines.{wrapped_one}
use Rattle.term_text.proofs.wrapping.wrapped.Goals as goal

pub returns : goal.returns
returns c =
    wrapped_one c.args.text.now c.characters.result.now c.split_line.result.0.now c.in_ok-copied.field-0 c.args.limit
    c.new-lines.result.items c.push.new.self.items c.lines.lines.items c.characters.ensures c.split_line.ensures.line c.in_ok-copied.ensures
    c.new-lines.ensures.items c.in_ok-push.ensures.items (λ fits. (c.lines.invariant fits).0)
