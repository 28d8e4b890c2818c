use Rattle.std.proofs.Common.{refl}
use Rattle.apply_text.specs.Lines.{message_object}
use Rattle.apply_text.proofs.Sending.{same_head, then, then_sends_same}
use Rattle.apply_text.proofs.Texts.{cleared}
use Rattle.apply_text_planning.proofs.messages.put_plan_outputs.Goals as goal

pub returns : goal.returns
unfolding message_object
returns c =
    let text = cleared _ _ _ c.clear.ensures.bytes c.in_ok-write.ensures.bytes in
    then_sends_same _ _ _ (same_head _ _ c.args.timestamp.now _ _ refl text) c.in_ok-begin_message.ensures
    (then _ _ c.in_ok-put_outputs.ensures c.end_message.ensures)
