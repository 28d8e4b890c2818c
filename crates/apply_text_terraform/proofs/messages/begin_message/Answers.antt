use Rattle.std.proofs.Common.{ap, ◌∙◌, ◌++◌}
use Rattle.serde_json.specs.Data.{string}
use Rattle.apply_text.specs.Sending.{member_tokens}
use Rattle.apply_text.proofs.Sending.{sends_same, then, then_one, then_text}
use Rattle.apply_text_terraform.proofs.messages.begin_message.Goals as goal

pub returns : goal.returns
returns c =
    let timestamp = c.as_str-2.ensures.value ∙ c.in_ok-write.ensures.bytes ∙ ap (λ s. s ++ c.args.timestamp.now) c.clear.ensures.bytes in
    then_one _ _ c.in_ok-begin_object.ensures
    (then _ _ c.in_ok-put_text.ensures
    (then_text _ _ _ _ c.as_str.ensures.value c.in_ok-put_text-2.ensures
    (then _ _ c.in_ok-put_text-3.ensures
    (sends_same (ap (λ t. member_tokens _ (string t)) timestamp) c.put_text-4.ensures))))
