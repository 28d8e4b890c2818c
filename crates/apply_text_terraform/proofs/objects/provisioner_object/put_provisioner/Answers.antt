use Rattle.std.proofs.Common.{codes, ap, ◌∷◌, ◌++◌}
use Rattle.std.specs.Option.{option_copied}
use Rattle.json.specs.Token.{begin_object, key}
use Rattle.serde_json.specs.Data.{no_members, string}
use Rattle.apply_text.specs.Sending.{member_tokens}
use Rattle.apply_text.proofs.Hooks.{output_first}
use Rattle.apply_text.proofs.Sending.{one, sends_same, then, then_one}
use Rattle.apply_text_terraform.specs.Objects.{provisioner_object, resource_object}
use Rattle.apply_text_terraform.proofs.objects.provisioner_object.put_provisioner.Goals as goal

pub returns : goal.returns
unfolding provisioner_object
returns c =
    sends_same (ap (λ tokens. key (codes "hook") ∷ begin_object ∷ (member_tokens (codes "resource") (resource_object c.args.change.now) ++ (member_tokens (codes "provisioner") (string c.args.name.now) ++ tokens))) (output_first (option_copied c.args.output) no_members))
    (then_one _ _ c.in_ok-key.ensures
    (then_one _ _ c.in_ok-begin_object.ensures
    (then _ _ c.in_ok-put_resource.ensures
    (then _ _ c.in_ok-put_text.ensures
    (then _ _ c.in_ok-put_output.ensures
    (one c.end_object.ensures))))))
