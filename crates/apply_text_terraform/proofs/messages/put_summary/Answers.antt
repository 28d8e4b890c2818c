use Rattle.std.proofs.Common.{refl}
use Rattle.apply_text.specs.Lines.{message_object}
use Rattle.apply_text.proofs.Sending.{same_head, then, then_sends_same}
use Rattle.apply_text_terraform.proofs.messages.put_summary.Goals as goal

pub returns : goal.returns
unfolding message_object
returns c =
    then_sends_same _ _ _ (same_head _ _ c.args.timestamp.now _ _ refl c.in_ok-write_totals.ensures) c.in_ok-begin_message.ensures
    (then _ _ c.in_ok-put_changes.ensures c.end_message.ensures)
