use Rattle.std.proofs.Common.{◌≡◌, ap, ◌∙◌, subst, sym, string_bytes}
use Rattle.std.specs.Prelude.{IfOk}
use Rattle.std.proofs.lemmas.Result.{IfOk-weaker}
use Rattle.serde_json.specs.Data.{no_members}
use Rattle.serde_json.specs.Written.{compact_text, has_float}
use Rattle.stream_check.specs.declared.command.settings.Form.{Form}
use Rattle.stream_check.specs.Objects.{with_whole}
use Rattle.stream_check.specs.Reports.{whole_report}
use Rattle.stream_check.proofs.Floats.{none_whole}
use Rattle.stream_check.proofs.Putting.{puts_all}
use Rattle.stream_check.proofs.command.verdict_lines.whole_line.Goals as goal

pub returns-in_ok-object-in-Json : goal.returns-in_ok-object-in-Json
returns-in_ok-object-in-Json c =
    let made = c.in_ok-object-in-Json.ensures (with_whole c.args.whole.now no_members)
    (puts_all c.new-members.result c.put_whole.new.members (with_whole c.args.whole.now) no_members c.new-members.ensures c.put_whole.ensures) in
    subst (λ (form : Form). IfOk c.to_string.result (λ text. string_bytes text ≡ whole_report form c.args.whole.now)) (sym c.in-Json.is)
    (IfOk-weaker c.to_string.result _ _ (λ text is. is (ap has_float made ∙ none_whole c.args.whole.now) ∙ ap compact_text made) c.to_string.ensures.text)
