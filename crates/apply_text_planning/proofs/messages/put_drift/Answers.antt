use Rattle.std.proofs.Common.{codes, refl, ap, ap₂, ◌∷◌, ◌++◌, ◌∙◌}
use Rattle.json.specs.Token.{begin_object, key}
use Rattle.serde_json.specs.Data.{member, no_members, string}
use Rattle.apply_text.specs.Lines.{message_object}
use Rattle.apply_text.specs.Sending.{member_tokens}
use Rattle.apply_text.proofs.Sending.{one, same_head, sends_same, then, then_one, then_sends_same, then_text}
use Rattle.apply_text.proofs.Texts.{cleared}
use Rattle.apply_text_terraform.specs.Objects.{resource_object}
use Rattle.apply_text_terraform.specs.Sending.{previous_tokens}
use Rattle.apply_text_terraform.proofs.Members.{previous_first}
use Rattle.apply_text_planning.specs.Objects.{drift_object}
use Rattle.apply_text_planning.specs.Words.{drift_word}
use Rattle.apply_text_planning.proofs.messages.put_drift.Goals as goal

pub returns : goal.returns
unfolding message_object drift_object
returns c =
    let details = c.args.details.now in
    let word = drift_word c.args.change.now.steps details.forgets in
    let is = c.drift_word-word.ensures ∙ ap (λ steps. drift_word steps details.forgets) c.steps.ensures.steps in
    let text = cleared _ _ _ c.clear.ensures.bytes c.in_ok-write.ensures.bytes ∙ ap₂ (λ a w. a ++ (codes ": Drift detected (" ++ (w ++ codes ")"))) c.address-address.ensures is in
    then_sends_same _ _ _ (same_head _ _ c.args.timestamp.now _ _ refl text) c.in_ok-begin_message.ensures
    (then _ _ (sends_same (ap (λ tokens. key (codes "change") ∷ begin_object ∷ (member_tokens (codes "resource") (resource_object c.args.change.now) ++ tokens)) (previous_first details.previous (member (codes "action") (string word) no_members)))
    (then_one _ _ c.in_ok-key.ensures
    (then_one _ _ c.in_ok-begin_object.ensures
    (then _ _ c.in_ok-put_resource.ensures
    (then_sends_same _ _ _ (ap previous_tokens c.as_ref.ensures.value) c.in_ok-put_previous_if.ensures
    (then_text _ _ _ _ is c.in_ok-put_text.ensures
    (one c.in_ok-end_object.ensures)))))))
    c.end_message.ensures)
