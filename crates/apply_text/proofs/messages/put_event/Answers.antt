use Rattle.std.proofs.Common.{codes, [], ◌∷◌, ◌++◌, ap}
use Rattle.json.specs.Token.{end_object}
use Rattle.serde_json.specs.Data.{string}
use Rattle.apply_text.specs.Lines.{message_object}
use Rattle.apply_text.specs.Sending.{member_tokens}
use Rattle.apply_text.proofs.Sending.{sends_same, same_head, then, then_sends_same}
use Rattle.apply_text.proofs.messages.put_event.Goals as goal

pub returns : goal.returns
unfolding message_object
returns c =
    let level = c.level.ensures c.args.step in
    let type_name = c.type_name.ensures c.args.step in
    then_sends_same _ _ _ (same_head _ _ c.args.timestamp.now _ _ level c.in_ok-write_event_text.ensures) c.in_ok-begin_message.ensures
    (then _ _ c.in_ok-put_body.ensures
    (sends_same (ap (λ t. member_tokens (codes "type") (string t) ++ end_object ∷ []) type_name) c.end_message.ensures))
