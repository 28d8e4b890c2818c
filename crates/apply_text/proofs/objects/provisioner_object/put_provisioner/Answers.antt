use Rattle.std.proofs.Common.{codes, ap, ◌∷◌}
use Rattle.std.specs.Option.{option_copied}
use Rattle.json.specs.Token.{begin_object, key}
use Rattle.serde_json.specs.Data.{member, no_members, string}
use Rattle.apply_text.specs.Objects.{provisioner_object, resource_object}
use Rattle.apply_text.proofs.Hooks.{output_first}
use Rattle.apply_text.proofs.Sending.{one, sends_same, then, then_one}
use Rattle.apply_text.proofs.objects.provisioner_object.put_provisioner.Goals as goal

pub returns : goal.returns
unfolding provisioner_object
returns c =
    let others = member (codes "provisioner") (string c.args.name.now) (member (codes "resource") (resource_object c.args.change.now) no_members) in
    sends_same (ap (λ tokens. key (codes "hook") ∷ begin_object ∷ tokens) (output_first (option_copied c.args.output) others))
    (then_one _ _ c.in_ok-key.ensures
    (then_one _ _ c.in_ok-begin_object.ensures
    (then _ _ c.in_ok-put_output.ensures
    (then _ _ c.in_ok-put_text.ensures
    (then _ _ c.in_ok-put_resource.ensures
    (one c.end_object.ensures))))))
