use Rattle.std.proofs.Common.{◌≡◌, ◌+◌, sym, ap, ◌∙◌}
use Rattle.apply_text.specs.AppliedStep.{message_of}
use Rattle.apply_text.specs.Lines.{message_line}
use Rattle.apply_text.proofs.LinesAdded.{line_added, message_is}
use Rattle.apply_text.proofs.line_buffer.LineBuffer.push_step.Goals as goal
use Rattle.apply_text.proofs.line_buffer.LineBuffer.push_step.Goals.{in-Progress+else-seconds-gt-FIRST_PROGRESS, in_default}

pub returns-clause-ok : goal.returns-clause-ok
returns-clause-ok c =
    let same : c.match-what.what ≡ c.args.what = elim c.match-what.branch [ in-Progress+else-seconds-gt-FIRST_PROGRESS w ↦ w.what-is ∙ sym w.in-Progress.is | in_default w ↦ w.what-is ] in
    line_added c.end_line.result _ _ _ _ _ _ _ _ (c.put_event-written.ensures.before ∙ c.begin_line-out.ensures.before) c.begin_line-out.ensures.tokens c.put_event-written.ensures.ok c.end_line.ensures.ok
    (message_is _ _ _ c.new-timestamp.ensures ∙ ap (λ what. message_line (c.args.start + c.args.clock) (message_of c.args.step what)) same)
