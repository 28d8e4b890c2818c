use Rattle.std.proofs.Common.{codes, refl, ap, ◌∙◌, ◌++◌}
use Rattle.apply_text.specs.Lines.{message_object}
use Rattle.apply_text.proofs.Sending.{one, same_head, then, then_sends_same}
use Rattle.apply_text.proofs.messages.put_version.Goals as goal

pub returns : goal.returns
unfolding message_object
returns c =
    let text = c.in_ok-write.ensures.bytes ∙ ap (λ s. s ++ (codes "Terraform " ++ c.args.version.now)) c.clear.ensures.bytes in
    then_sends_same _ _ _ (same_head _ _ c.args.timestamp.now _ _ refl text) c.in_ok-begin_message.ensures
    (then _ _ c.in_ok-put_text.ensures
    (then _ _ c.in_ok-put_text-2.ensures
    (then _ _ c.in_ok-put_text-3.ensures
    (one c.end_object.ensures))))
