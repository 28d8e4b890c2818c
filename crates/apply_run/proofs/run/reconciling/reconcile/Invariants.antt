use Rattle.std.proofs.Common.{◌≡◌, ◌++◌, length, true}
use Rattle.std.specs.Vec.Iter.{into_iter_items, into_iter_len}
use Rattle.apply_bus.specs.Items.{closes}
use Rattle.apply_run.specs.Run.Reconciled.{IsReconciled, IsReconciledWhole}
use Rattle.apply_run.specs.Run.Threads.{EachAt}
use Rattle.apply_run.proofs.run.reconciling.reconcile.Given as goal

-- what is known of the workers so far
abbrev pub invariant-loop-worker : goal.invariant-loop-worker
invariant-loop-worker g l = record {
  left : l.yielded ++ into_iter_items l.worker-iterator ≡ l.fn.stopped.items;
  count : into_iter_len l.worker-iterator ≡ length (into_iter_items l.worker-iterator);
  bus : l.taken.bus ≡ l.fn.taken.bus;
  workers : l.taken.workers ≡ l.fn.taken.workers;
  taken : l.taken.taken ≡ l.fn.taken.taken;
  claims : l.drawer_join.claims ≡ l.fn.claims;
  here : length l.drawer_join.drawings ≡ length l.yielded;
  part : EachAt (IsReconciled g.K.RunName.work l.fn.taken.taken) l.drawer_join.drawings;
  whole : l.closed ≡ true → closes l.fn.taken.taken ≡ l.fn.taken.workers → EachAt (IsReconciledWhole g.K.RunName.work l.fn.taken.taken) l.drawer_join.drawings;
}
