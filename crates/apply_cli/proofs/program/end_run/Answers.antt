use Rattle.std.proofs.Common.{◌≡◌, ◌<◌, refl, sym, subst, arith, rules}
use Rattle.std.proofs.KnownBytes.{Keeps-refl}
use Rattle.apply_run.specs.FromBytes.{WasRefusedOf, WasReportedOf}
use Rattle.apply_run.specs.Run.{SinkState}
use Rattle.apply_run.specs.declared.refusal.Refusal.TheVariants.{Fault}
use Rattle.apply_cli.specs.Command.{sink_state}
use Rattle.apply_cli.specs.Invocation.{job_reading, schedule_of}
use Rattle.apply_cli.specs.Unmatched.{AreReported, unmatched_of}
use Rattle.apply_cli.proofs.Ending.{at_err, at_ok, ended_refused, ended_unflushed, ended_whole}
use Rattle.apply_cli.proofs.Readings.{job_sound}
use Rattle.apply_cli.proofs.program.end_run.Goals as goal

pub returns-then-failures-clause-ended : goal.returns-then-failures-clause-ended
returns-then-failures-clause-ended g c = λ given before plan_is same ok err.
    let settings = c.args.job.now.settings.now in let reading = job_reading c.args.job.now c.args.parallelism in
    let sound = job_sound c.args.job.now c.args.parallelism in
    let after : SinkState = sink_state g.W.Write.contents c.args.ended.0 in
    let after' : SinkState = sink_state g.W.Write.contents c.flush_unless_failed.new.output in
    let h = at_ok c.args.ended.1 c.in-Ok.report (λ report. WasReportedOf (schedule_of settings c.args.parallelism) reading given settings.at settings.operation report before after) c.in-Ok.is ok in
    let grown : after.failed < after'.failed = omega (arith, h.applied.streamed.whole.failed, same, c.failures.ensures, c.if-failures.true) in
    ended_unflushed given settings c.args.parallelism reading sound before after after' _ _ c.in-Ok.report h c.flush_unless_failed.ensures.bytes grown

pub returns-else-failures-clause-ended : goal.returns-else-failures-clause-ended
returns-else-failures-clause-ended g c = λ given before plan_is same ok err.
    let settings = c.args.job.now.settings.now in let reading = job_reading c.args.job.now c.args.parallelism in
    let sound = job_sound c.args.job.now c.args.parallelism in
    let after : SinkState = sink_state g.W.Write.contents c.args.ended.0 in
    let after' : SinkState = sink_state g.W.Write.contents c.flush_unless_failed.new.output in
    let h = at_ok c.args.ended.1 c.in-Ok.report (λ report. WasReportedOf (schedule_of settings c.args.parallelism) reading given settings.at settings.operation report before after) c.in-Ok.is ok in
    let flushed : after'.failed ≡ after.failed =
    omega (arith, h.applied.streamed.whole.failed, same, c.failures.ensures, c.if-failures.false, c.flush_unless_failed.ensures.failed) in
    ended_whole given settings c.args.parallelism reading sound before after after' _ _ c.in-Ok.report c.run_status.result h c.one_worker_applies_all_changes_in_order.ensures
    c.flush_unless_failed.ensures.bytes flushed c.run_status.ensures.status c.run_status.ensures.good
    (subst (λ halts. AreReported (unmatched_of given.plan halts) (g.E.Write.contents c.args.faults.now) (g.E.Write.contents c.report_unmatched.new.faults)) c.deref.ensures.value
    (subst (λ bytes. AreReported (unmatched_of bytes c.deref.result.now) (g.E.Write.contents c.args.faults.now) (g.E.Write.contents c.report_unmatched.new.faults)) (sym plan_is)
    c.report_unmatched.ensures.reported))

pub returns-in-Err-Fault-clause-ended : goal.returns-in-Err-Fault-clause-ended
returns-in-Err-Fault-clause-ended g c = λ given before plan_is same ok err.
    let settings = c.args.job.now.settings.now in let reading = job_reading c.args.job.now c.args.parallelism in
    let sound = job_sound c.args.job.now c.args.parallelism in
    let after : SinkState = sink_state g.W.Write.contents c.args.ended.0 in
    let h = at_err c.args.ended.1 (Fault c.in-Err-Fault.fault) (λ refusal. WasRefusedOf (schedule_of settings c.args.parallelism) reading given settings.at settings.operation refusal before after) (search rules) err in
    ended_refused given settings c.args.parallelism reading sound before after (sink_state g.W.Write.contents c.flush_unless_failed-in-Err-Fault.new.output) _ _ (Fault c.in-Err-Fault.fault) 3 h refl (omega arith, omega arith)
    (λ two. absurd (omega (arith, two))) c.flush_unless_failed-in-Err-Fault.ensures.bytes c.flush_unless_failed-in-Err-Fault.ensures.failed

pub returns-in-Err-clause-ended : goal.returns-in-Err-clause-ended
returns-in-Err-clause-ended g c = λ given before plan_is same ok err.
    let settings = c.args.job.now.settings.now in let reading = job_reading c.args.job.now c.args.parallelism in
    let sound = job_sound c.args.job.now c.args.parallelism in
    let after : SinkState = sink_state g.W.Write.contents c.args.ended.0 in
    let h = at_err c.args.ended.1 c.in-Err.refusal (λ refusal. WasRefusedOf (schedule_of settings c.args.parallelism) reading given settings.at settings.operation refusal before after) c.in-Err.is err in
    ended_refused given settings c.args.parallelism reading sound before after after _ _ c.in-Err.refusal c.refusal_status.result h c.refusal_status.ensures.status c.refusal_status.ensures.bad
    (λ _. refl) (Keeps-refl after.bytes) (omega arith)
