use Rattle.std.proofs.Common.{◌∙◌, Ok}
use Rattle.std.proofs.lemmas.Result.{err_from_is_err_and, on_ok_weaker}
use Rattle.stream_check.specs.Reports.{whole_report}
use Rattle.stream_check.proofs.MessageText.{written}
use Rattle.stream_check.proofs.Statuses.{memory_reported, whole_reported}
use Rattle.stream_check.proofs.command.checking.write_whole.Goals as goal

pub returns-in_err-text : goal.returns-in_err-text
returns-in_err-text g c =
    let p = err_from_is_err_and c.from_residual.result c.from_residual.ensures.1 in
    rw (p.1, p.2)
    (λ is_named seen mode. memory_reported is_named mode seen c.args.form (Ok c.args.whole.now) (g.W.Write.contents c.args.out.now) tt)

pub returns : goal.returns
returns g c = λ is_named seen mode.
    whole_reported is_named mode seen c.args.form c.args.whole.now c.write_line.result (g.W.Write.contents c.args.out.now) (g.W.Write.contents c.write_line.new.out)
    (on_ok_weaker c.write_line.result (written (g.W.Write.contents c.args.out.now) (g.W.Write.contents c.write_line.new.out) c.as_str.result.now (whole_report c.args.form c.args.whole.now) (c.as_str.ensures.value ∙ c.in_ok-text.ensures)) c.write_line.ensures.written)
    c.write_line.ensures.unwritten
