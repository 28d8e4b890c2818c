use Rattle.std.proofs.Common.{codes, ap, option_map, ◌∷◌, ◌++◌, ◌∙◌}
use Rattle.json.specs.Token.{begin_object, key}
use Rattle.serde_json.specs.Data.{member, no_members, string}
use Rattle.apply_model.specs.Details.{reason_word}
use Rattle.apply_text.specs.Sending.{member_tokens}
use Rattle.apply_text.proofs.Sending.{one, sends_same, then, then_one, then_sends_same}
use Rattle.apply_text_terraform.specs.Objects.{change_object, importing_member, resource_object, text_if}
use Rattle.apply_text_terraform.specs.Sending.{importing_tokens, previous_tokens, text_tokens}
use Rattle.apply_text_terraform.proofs.Members.{details_first, previous_first}
use Rattle.apply_text_terraform.proofs.objects.change_object.put_change.Goals as goal

pub returns : goal.returns
unfolding change_object
returns c =
    let details = c.args.details.now in
    let reason = option_map reason_word details.reason in
    let others = member (codes "action") (string c.args.word.now) (text_if (codes "reason") reason (importing_member details.importing (text_if (codes "generated_config") details.generated_config no_members))) in
    sends_same (ap (λ tokens. key (codes "change") ∷ begin_object ∷ (member_tokens (codes "resource") (resource_object c.args.change.now) ++ tokens))
    (ap (λ tokens. previous_tokens details.previous ++ (member_tokens (codes "action") (string c.args.word.now) ++ tokens)) (details_first reason details.importing details.generated_config)
    ∙ previous_first details.previous others))
    (then_one _ _ c.in_ok-key.ensures
    (then_one _ _ c.in_ok-begin_object.ensures
    (then _ _ c.in_ok-put_resource.ensures
    (then_sends_same _ _ _ (ap previous_tokens c.as_ref.ensures.value) c.in_ok-put_previous_if.ensures
    (then _ _ c.in_ok-put_text.ensures
    (then_sends_same _ _ _ (ap (text_tokens (codes "reason")) c.reason_word.ensures) c.in_ok-put_text_if.ensures
    (then_sends_same _ _ _ (ap importing_tokens c.as_ref-2.ensures.value) c.in_ok-put_importing.ensures
    (then_sends_same _ _ _ (ap (text_tokens (codes "generated_config")) c.generated_config.ensures) c.in_ok-put_text_if-2.ensures
    (one c.end_object.ensures)))))))))
