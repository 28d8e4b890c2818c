use Rattle.std.proofs.Common.{codes, refl, ap, ◌∷◌, ◌++◌, ◌∙◌}
use Rattle.std.specs.Option.{option_copied}
use Rattle.json.specs.Token.{begin_object, key}
use Rattle.serde_json.specs.Data.{no_members}
use Rattle.apply_text.specs.Lines.{message_object}
use Rattle.apply_text.specs.Message.{id_suffix}
use Rattle.apply_text.specs.Sending.{member_tokens}
use Rattle.apply_text.proofs.Hooks.{id_first}
use Rattle.apply_text.proofs.Sending.{one, same_head, sends_same, then, then_one, then_sends_same}
use Rattle.apply_text.proofs.Texts.{cleared}
use Rattle.apply_text_terraform.specs.Objects.{resource_object}
use Rattle.apply_text_planning.specs.Objects.{refresh_object}
use Rattle.apply_text_planning.proofs.messages.put_refresh.Goals as goal

pub returns : goal.returns
unfolding message_object refresh_object
returns c =
    let id = option_copied c.args.id in
    let text = cleared _ _ _ c.clear.ensures.bytes c.in_ok-write.ensures.bytes ∙ ap (λ a. a ++ (codes ": " ++ (c.args.words.now ++ id_suffix id))) c.address-address.ensures in
    then_sends_same _ _ _ (same_head _ _ c.args.timestamp.now _ _ refl text) c.in_ok-begin_message.ensures
    (then _ _ (sends_same (ap (λ tokens. key (codes "hook") ∷ begin_object ∷ (member_tokens (codes "resource") (resource_object c.args.object.now) ++ tokens)) (id_first id no_members))
    (then_one _ _ c.in_ok-key.ensures
    (then_one _ _ c.in_ok-begin_object.ensures
    (then _ _ c.in_ok-put_resource.ensures
    (then _ _ c.in_ok-put_id.ensures
    (one c.in_ok-end_object.ensures))))))
    c.end_message.ensures)
