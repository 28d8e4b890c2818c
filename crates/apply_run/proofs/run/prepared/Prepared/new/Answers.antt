use Rattle.std.proofs.Common.{refl, sym, ap, ◌∙◌, subst, length, arith}
use Rattle.apply_run.specs.Run.Threads.{EachAt, IsNewDrawer, IsNewSender}
use Rattle.apply_run.proofs.Runs.Ready.{drawers_count, drawers_new, senders_new}
use Rattle.apply_run.proofs.run.prepared.Prepared.new.Goals as goal

pub returns-clause-endpoints : goal.returns-clause-endpoints
returns-clause-endpoints c =
    let claims = c.in_ok-claims.claims in let bus = c.in_ok-senders.rx.bus in let n = c.args.options.workers in
    let drawers = c.in_ok-claims.ensures.drawers in
    record {
      some = omega (arith, c.requires.some_worker, c.in_ok-claims.ensures.claims.1);
      drawers = subst (EachAt (IsNewDrawer claims)) (sym drawers) (drawers_new claims n);
      senders = subst (EachAt (IsNewSender bus)) (sym c.in_ok-senders.ensures.senders) (senders_new bus _ n);
      count = ap length drawers ∙ drawers_count claims n ∙ sym c.in_ok-claims.ensures.claims.1;
      rx_bus = refl;
      rx_workers = c.in_ok-senders.ensures.receiver.0 ∙ sym c.in_ok-claims.ensures.claims.1;
      rx_taken = c.in_ok-senders.ensures.receiver.1;
      none_stopped = c.in_ok-stopped.ensures.items;
      room = omega (arith, c.in_ok-claims.ensures.claims.1, c.in_ok-stopped.ensures.capacity, c.from.ensures);
    }
