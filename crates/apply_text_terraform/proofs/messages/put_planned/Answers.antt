use Rattle.std.proofs.Common.{refl}
use Rattle.apply_text.specs.Lines.{message_object}
use Rattle.apply_text.proofs.Sending.{same_head, then, then_sends_same}
use Rattle.apply_text_terraform.proofs.Texts.{planned_text}
use Rattle.apply_text_terraform.proofs.messages.put_planned.Goals as goal

pub returns : goal.returns
unfolding message_object
returns c =
    let text = planned_text _ _ _ _ _ c.clear.ensures.bytes c.in_ok-write.ensures.bytes c.address-address.ensures in
    then_sends_same _ _ _ (same_head _ _ c.args.timestamp.now _ _ refl text) c.in_ok-begin_message.ensures
    (then _ _ c.in_ok-put_change.ensures c.end_message.ensures)
