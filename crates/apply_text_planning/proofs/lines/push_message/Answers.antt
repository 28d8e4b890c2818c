use Rattle.apply_text_terraform.proofs.LinesAdded.{line_added, message_is}
use Rattle.apply_text_planning.proofs.lines.push_message.Goals as goal

pub returns-clause-ok : goal.returns-clause-ok
returns-clause-ok c =
    line_added c.end_line.result _ _ _ _ _ _ _ _ c.begin_line-out.ensures.lines c.begin_line-out.ensures.tokens c.put_message-written.ensures.ok c.end_line.ensures.ok
    (message_is _ _ _ c.new-timestamp.ensures)
