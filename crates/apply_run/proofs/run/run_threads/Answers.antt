use Rattle.std.proofs.Common.{All, length, true≢false, sym, ap, ◌∙◌, subst}
use Rattle.apply_events.specs.Step.{Work}
use Rattle.apply_bus.specs.Claims.{ClaimsName}
use Rattle.apply_bus.specs.Items.{events as events_of}
use Rattle.apply_events.specs.Fits.{IsOfPlan}
use Rattle.apply_run.proofs.run.run_threads.Goals as goal
use Rattle.apply_run.proofs.run.run_threads.Goals.{then-whole, else-whole}

pub reconcile-whole-requires : goal.reconcile-whole-requires
reconcile-whole-requires g c =
    let run = c.requires.run in let joined = c.in-Ok.ensures.1.0 in
    record {
      claims = run.claims_is;
      bus = joined.bus_is;
      limit = ap (λ (n : ClaimsName). n.limit) (sym run.claims_is) ∙ run.limit ∙ ap (λ (work : Work). length work.plan.changes) run.work_is;
      workers = (joined.workers, joined.count);
      some = c.requires.endpoints.some;
      stopped = joined.stopped;
    }

pub returns-after-whole-clause-finished : goal.returns-after-whole-clause-finished
returns-after-whole-clause-finished g c =
    let joined = c.in-Ok.ensures.1.0 in let reconciled = c.reconcile-whole.ensures in let taken = c.in-Ok.field-0.taken.taken in
    record {
      lists = reconciled.applied.0;
      events = events_of taken;
      part = reconciled.applied.1;
      whole = λ all. elim c.if-whole.branch [
        | then-whole w ↦ reconciled.applied.2 w.if-whole.true
        | else-whole w ↦ absurd (true≢false (sym all ∙ w.result-is ∙ w.if-whole.false))
      ];
      same = joined.same;
      counts_fit = joined.counts_fit;
      accepted = joined.accepted (subst (λ p. All (IsOfPlan p) (events_of taken)) (sym (c.requires.plan ∙ ap (λ (work : Work). work.plan) c.requires.run.work_is)) reconciled.fits);
    }
