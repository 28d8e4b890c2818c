use Rattle.std.proofs.Common.{codes, ap, ◌∷◌, ◌++◌}
use Rattle.std.specs.Option.{option_copied}
use Rattle.json.specs.Token.{begin_object, key}
use Rattle.serde_json.specs.Data.{no_members, string}
use Rattle.apply_text.specs.Sending.{member_tokens}
use Rattle.apply_text.proofs.Sending.{one, sends_same, then, then_one}
use Rattle.apply_text_terraform.specs.Objects.{diagnostic_object}
use Rattle.apply_text_terraform.proofs.Members.{text_first}
use Rattle.apply_text_terraform.proofs.objects.diagnostic_object.put_diagnostic.Goals as goal

pub returns : goal.returns
unfolding diagnostic_object
returns c =
    let diag = c.args.diag in
    sends_same (ap (λ tokens. key (codes "diagnostic") ∷ begin_object ∷ (member_tokens (codes "severity") (string c.args.severity.now) ++ (member_tokens (codes "summary") (string diag.summary.now) ++ (member_tokens (codes "detail") (string diag.detail.now) ++ tokens)))) (text_first (codes "address") (option_copied c.args.address) no_members))
    (then_one _ _ c.in_ok-key.ensures
    (then_one _ _ c.in_ok-begin_object.ensures
    (then _ _ c.in_ok-put_text.ensures
    (then _ _ c.in_ok-put_text-2.ensures
    (then _ _ c.in_ok-put_text-3.ensures
    (then _ _ c.in_ok-put_text_if.ensures
    (one c.end_object.ensures)))))))
