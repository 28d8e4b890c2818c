use Rattle.std.proofs.Common.{◌∙◌, sym, ap, subst, refl}
use Rattle.apply_events.specs.ChangeEvents.{change_events}
use Rattle.apply_events.specs.Course.{Course}
use Rattle.apply_events.specs.Fits.{HasStep}
use Rattle.apply_events.specs.Runner.{to_come}
use Rattle.apply_bus.specs.Bus.{Sender}
use Rattle.apply_run.specs.Worker.WorkerJob.{work_of}
use Rattle.apply_run.proofs.Workers.Sent.{nothing_sent, sent_next, IsSentBefore}
use Rattle.apply_run.proofs.worker.apply_change.Goals as goal

pub loop-step-init : goal.loop-step-init
loop-step-init g c =
    let plan = c.args.job.now.plan.now in let sent = c.args.tx.now.sent in let all = change_events (work_of c.args.job.now) c.args.tx.now.worker c.args.change c.args.at in
    record {
      course = c.start-runner.ensures.course;
      bus = refl;
      worker = refl;
      same = c.worker-worker.ensures;
      sent = subst (λ rest. IsSentBefore plan sent sent rest all)
          (sym (c.start-runner.ensures.events ∙ ap (λ (course : Course). change_events course.work c.worker-worker.result c.args.change c.args.at) c.start-runner.ensures.course
          ∙ ap (λ w. change_events (work_of c.args.job.now) w c.args.change c.args.at) c.worker-worker.ensures))
          (nothing_sent plan sent all);
    }

pub loop-step-preserved : goal.loop-step-preserved
loop-step-preserved g c =
    let i = c.loop-step.invariant in let next = c.in-Some-next.ensures in let sent = c.in-Ok.ensures.ok in
    let plan = c.args.job.now.plan.now in let all = change_events (work_of c.args.job.now) c.args.tx.now.worker c.args.change c.args.at in
    record {
      course = next.course ∙ i.course;
      bus = ap (λ (s : Sender). s.bus) sent ∙ i.bus;
      worker = ap (λ (s : Sender). s.worker) sent ∙ i.worker;
      same = i.same;
      sent = sent_next plan c.args.tx.now.sent c.loop-step.tx.sent c.send.new.self.sent (to_come c.loop-step.runner) (to_come c.next.new.self) all c.in-Some-next.event
          i.sent next.next (ap (λ (s : Sender). s.sent) sent)
          (record { has_step = subst (λ (course : Course). HasStep course.work.plan c.in-Some-next.event.change c.in-Some-next.event.step) i.course next.has_step; in_time = next.in_time });
    }
