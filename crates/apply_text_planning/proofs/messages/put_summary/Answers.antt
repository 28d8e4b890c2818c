use Rattle.std.proofs.Common.{refl}
use Rattle.apply_text.specs.Lines.{message_object}
use Rattle.apply_text.proofs.Sending.{one, same_head, then, then_one, then_sends_same}
use Rattle.apply_text_planning.specs.Objects.{plan_changes_object}
use Rattle.apply_text_planning.proofs.messages.put_summary.Goals as goal

pub returns : goal.returns
unfolding message_object plan_changes_object
returns c =
    then_sends_same _ _ _ (same_head _ _ c.args.timestamp.now _ _ refl c.in_ok-write_totals.ensures) c.in_ok-begin_message.ensures
    (then _ _
    (then_one _ _ c.in_ok-key.ensures
    (then_one _ _ c.in_ok-begin_object.ensures
    (then _ _ c.in_ok-put_number.ensures
    (then _ _ c.in_ok-put_number-2.ensures
    (then _ _ c.in_ok-put_number-3.ensures
    (then _ _ c.in_ok-put_number-4.ensures
    (then _ _ c.in_ok-put_text.ensures
    (one c.in_ok-end_object.ensures))))))))
    c.end_message.ensures)
