use Rattle.std.proofs.Common.{List, Err, refl, sym, subst}
use Rattle.std.proofs.KnownBytes.{Keeps-refl}
use Rattle.std.proofs.lemmas.Result.{err_from_is_err_and}
use Rattle.stream_check.specs.declared.command.unreported.Unreported.TheVariants as unreported
use Rattle.stream_check.specs.declared.command.settings.Form.{Form}
use Rattle.stream_check.specs.declared.rules.open_entry.OpenEntry.{OpenEntry}
use Rattle.stream_check.specs.declared.verdict.read_fault.ReadFault.TheVariants as read
use Rattle.stream_check.specs.Reports.{AreListed, IsReported}
use Rattle.stream_check.proofs.FromReader.{report_holds_if_known}
use Rattle.stream_check.proofs.Statuses.{memory_reported, not_gone, text_reported}
use Rattle.stream_check.proofs.command.findings.report_finding.Goals as goal

pub returns-in_err-object : goal.returns-in_err-object
returns-in_err-object g c =
    let p = err_from_is_err_and c.from_residual.result c.from_residual.ensures.1 in
    rw (p.1, p.2) (record {
      reported = λ seen stops is_named. memory_reported is_named c.args.mode seen c.args.form (Err (read.Found c.args.finding.now)) (g.W.Write.contents c.args.out.now) tt;
      gone = not_gone (Err unreported.Memory) refl;
    })

pub returns-in_err-listed : goal.returns-in_err-listed
returns-in_err-listed g c =
    let p = err_from_is_err_and c.from_residual-in_err-listed.result c.from_residual-in_err-listed.ensures.1 in
    rw (p.1, p.2) (record {
      reported = λ seen stops is_named. memory_reported is_named c.args.mode seen c.args.form (Err (read.Found c.args.finding.now)) (g.W.Write.contents c.args.out.now) tt;
      gone = not_gone (Err unreported.Memory) refl;
    })

pub returns-in-Text : goal.returns-in-Text
returns-in-Text g c = record {
  reported = λ seen stops is_named. text_reported is_named c.args.mode seen c.args.form c.args.finding.now c.report_finding_text.result (g.W.Write.contents c.args.out.now) c.in-Text.is c.report_finding_text.ensures;
  gone = not_gone c.report_finding_text.result c.report_finding_text.ensures;
}

pub returns : goal.returns
returns g c = record {
  reported = λ seen stops is_named.
      subst
      (λ (form : Form). IsReported is_named c.args.mode seen form (Err (read.Found c.args.finding.now)) c.report_finding_object.result (g.W.Write.contents c.args.out.now) (g.W.Write.contents c.report_finding_object.new.out))
      (sym c.in-Json.is)
      (c.report_finding_object.ensures seen c.args.mode
      (report_holds_if_known c.args.mode seen c.args.finding.now c.args.checker.now c.args.line.now.text.items c.args.line.now.has_feed (g.R.Read.remaining c.args.reader.now) _ refl c.deref.ensures.value c.is_cut_off.ensures c.in_ok-object.ensures
      (λ messages has_read. subst (λ (entries : List OpenEntry). AreListed c.args.finding.now.fault messages entries) (sym c.deref-2.ensures.value) (c.in_ok-listed.ensures messages has_read)) refl c.in_ok-runs.ensures stops) is_named);
  gone = λ gone. Keeps-refl (g.E.Write.contents c.args.faults.now);
}

pub returns-in_err-runs : goal.returns-in_err-runs
returns-in_err-runs g c =
    let p = err_from_is_err_and c.from_residual-in_err-runs.result c.from_residual-in_err-runs.ensures.1 in
    rw (p.1, p.2) (record {
      reported = λ seen stops is_named. memory_reported is_named c.args.mode seen c.args.form (Err (read.Found c.args.finding.now)) (g.W.Write.contents c.args.out.now) tt;
      gone = not_gone (Err unreported.Memory) refl;
    })
