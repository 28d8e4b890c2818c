use Rattle.std.proofs.Common.{◌∙◌, Err}
use Rattle.std.proofs.lemmas.Result.{err_from_is_err_and, on_ok_weaker}
use Rattle.serde_json.specs.Data.{no_members, object}
use Rattle.serde_json.specs.Written.{compact_text}
use Rattle.stream_check.specs.ReportObject.{with_report}
use Rattle.stream_check.specs.declared.command.settings.Form.TheVariants.{Json}
use Rattle.stream_check.specs.declared.verdict.read_fault.ReadFault.TheVariants as read
use Rattle.stream_check.proofs.MessageText.{written}
use Rattle.stream_check.proofs.Statuses.{memory_reported, object_reported}
use Rattle.stream_check.proofs.command.findings.report_finding_object.Goals as goal

pub returns-in_err-text : goal.returns-in_err-text
returns-in_err-text g c =
    let p = err_from_is_err_and c.from_residual.result c.from_residual.ensures.1 in
    rw (p.1, p.2)
    (λ seen mode is is_named. memory_reported is_named mode seen Json (Err (read.Found c.args.report.now.finding)) (g.W.Write.contents c.args.out.now) tt)

pub returns : goal.returns
returns g c = λ seen mode is is_named.
    let text = compact_text (object (with_report c.args.report.now no_members)) in
    object_reported is_named mode seen c.args.report.now c.write_line.result (g.W.Write.contents c.args.out.now) (g.W.Write.contents c.write_line.new.out) is
    (on_ok_weaker c.write_line.result (written (g.W.Write.contents c.args.out.now) (g.W.Write.contents c.write_line.new.out) c.as_str.result.now text (c.as_str.ensures.value ∙ c.in_ok-text.ensures)) c.write_line.ensures.written)
    c.write_line.ensures.unwritten
