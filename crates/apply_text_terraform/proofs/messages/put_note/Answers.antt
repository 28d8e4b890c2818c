use Rattle.std.proofs.Common.{ap}
use Rattle.apply_text.specs.Lines.{message_object}
use Rattle.apply_text.proofs.Sending.{same_head, then_sends_same}
use Rattle.apply_text_terraform.proofs.Events.{same_diagnostic}
use Rattle.apply_text_terraform.proofs.Texts.{note_text}
use Rattle.apply_text_terraform.proofs.messages.put_note.Goals as goal

pub returns : goal.returns
unfolding message_object
returns c =
    let words = c.new-words.ensures in
    let diag = c.new-diag.ensures in
    let text = note_text _ _ _ _ _ _ c.clear.ensures.bytes c.in_ok-write.ensures.bytes words.label (ap (λ d. d.summary) diag) in
    then_sends_same _ _ _ (same_head _ _ c.args.timestamp.now _ _ words.level text) c.in_ok-begin_message.ensures
    (then_sends_same _ _ _ (same_diagnostic _ _ _ _ _ _ c.address.ensures words.severity diag) c.in_ok-put_diagnostic.ensures c.end_message.ensures)
