use Rattle.std.proofs.Common.{codes, ap, ◌∷◌}
use Rattle.std.specs.Option.{option_copied}
use Rattle.json.specs.Token.{begin_object, key, string}
use Rattle.serde_json.specs.Data.{member, no_members}
use Rattle.apply_text.specs.Objects.{hook_object, resource_object}
use Rattle.apply_text.specs.Words.{action_word}
use Rattle.apply_text.proofs.Hooks.{members_first}
use Rattle.apply_text.proofs.Sending.{one, sends_same, then, then_one, then_text}
use Rattle.apply_text.proofs.objects.hook_object.put_hook.Goals as goal

pub returns : goal.returns
unfolding hook_object
returns c =
    let resource = member (codes "resource") (resource_object c.args.change.now) no_members in
    sends_same (ap (λ tokens. key (codes "hook") ∷ begin_object ∷ key (codes "action") ∷ string (action_word c.args.step) ∷ tokens) (members_first c.args.elapsed (option_copied c.args.id) resource))
    (then_one _ _ c.in_ok-key.ensures
    (then_one _ _ c.in_ok-begin_object.ensures
    (then_text _ _ _ _ c.new.ensures.action c.in_ok-put_text.ensures
    (then _ _ c.in_ok-put_elapsed.ensures
    (then _ _ c.in_ok-put_id.ensures
    (then _ _ c.in_ok-put_resource.ensures
    (one c.end_object.ensures)))))))
