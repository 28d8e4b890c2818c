use Rattle.std.proofs.Common.{ap, ◌∙◌}
use Rattle.std.proofs.lemmas.Result.{IfOk-weaker}
use Rattle.serde_json.specs.Data.{no_members}
use Rattle.serde_json.specs.Written.{compact_text, has_float}
use Rattle.stream_check.specs.ReportObject.{with_report}
use Rattle.stream_check.proofs.Floats.{none_in_report}
use Rattle.stream_check.proofs.Putting.{puts_all}
use Rattle.stream_check.proofs.command.verdict_lines.finding_json.Goals as goal

pub returns : goal.returns
returns c =
    let made = c.in_ok-object.ensures (with_report c.args.report.now no_members)
    (puts_all c.new-members.result c.put_report.new.members (with_report c.args.report.now) no_members c.new-members.ensures c.put_report.ensures) in
    IfOk-weaker c.to_string.result _ _ (λ text is. is (ap has_float made ∙ none_in_report c.args.report.now) ∙ ap compact_text made) c.to_string.ensures.text
