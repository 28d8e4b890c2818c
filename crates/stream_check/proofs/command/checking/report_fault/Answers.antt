use Rattle.std.proofs.Common.{◌≡◌, Bool, Err, subst}
use Rattle.std.proofs.KnownBytes.{Keeps-trans}
use Rattle.std.specs.Prelude.{IfErr, is_some}
use Rattle.std.proofs.lemmas.Result.{IfErr-weaker}
use Rattle.stream_check.specs.Reports.{TakesMemory}
use Rattle.stream_check.specs.declared.command.unreported.Unreported.TheVariants as unreported
use Rattle.stream_check.proofs.Statuses.{fault_reported, not_gone}
use Rattle.stream_check.proofs.command.checking.report_fault.Goals as goal

pub returns-in-Found : goal.returns-in-Found
returns-in-Found g c = record {
  reported = λ seen stops. rw (c.in-Found.is) (c.report_finding-reported.ensures.reported seen (rw c.in-Found.is at stops) (is_some c.args.settings.now.file));
  gone = λ gone.
      Keeps-trans (g.E.Write.contents c.args.faults.now) (g.E.Write.contents c.report_finding-reported.new.faults) (g.E.Write.contents c.report_failure.new.faults)
      (c.report_finding-reported.ensures.gone gone) (c.report_failure.ensures.gone gone);
}

pub returns-in_default : goal.returns-in_default
returns-in_default g c = record {
  reported = λ seen stops. fault_reported (is_some c.args.settings.now.file) c.args.mode seen c.args.settings.now.form c.args.fault c.refuse.result (g.W.Write.contents c.args.out.now) c.in_default.not-Found (subst (λ (named : Bool). IfErr c.refuse.result (λ why. (why ≡ unreported.Memory) × TakesMemory named (Err c.args.fault))) c.file.ensures.named c.refuse.ensures);
  gone = not_gone c.refuse.result (IfErr-weaker c.refuse.result _ _ (λ why refused. refused.0) c.refuse.ensures);
}
