use Rattle.std.proofs.Common.{codes, ap, ◌∷◌, ◌++◌, ◌∙◌}
use Rattle.std.specs.Option.{option_copied}
use Rattle.json.specs.Token.{begin_object, key}
use Rattle.serde_json.specs.Data.{no_members, string}
use Rattle.apply_text.specs.Objects.{elapsed_member}
use Rattle.apply_text.specs.Sending.{id_tokens, member_tokens}
use Rattle.apply_text.specs.Words.{action_word}
use Rattle.apply_text.proofs.Hooks.{elapsed_first, id_first}
use Rattle.apply_text.proofs.Sending.{one, sends_same, then, then_one, then_text}
use Rattle.apply_text_terraform.specs.Objects.{hook_object, resource_object}
use Rattle.apply_text_terraform.proofs.objects.hook_object.put_hook.Goals as goal

pub returns : goal.returns
unfolding hook_object
returns c =
    let id = option_copied c.args.id in
    let last = ap (λ tokens. id_tokens id ++ tokens) (elapsed_first c.args.elapsed no_members) ∙ id_first id (elapsed_member c.args.elapsed no_members) in
    sends_same (ap (λ tokens. key (codes "hook") ∷ begin_object ∷ (member_tokens (codes "resource") (resource_object c.args.change.now) ++ (member_tokens (codes "action") (string (action_word c.args.step)) ++ tokens))) last)
    (then_one _ _ c.in_ok-key.ensures
    (then_one _ _ c.in_ok-begin_object.ensures
    (then _ _ c.in_ok-put_resource.ensures
    (then_text _ _ _ _ c.new.ensures.action c.in_ok-put_text.ensures
    (then _ _ c.in_ok-put_id.ensures
    (then _ _ c.in_ok-put_elapsed.ensures
    (one c.end_object.ensures)))))))
