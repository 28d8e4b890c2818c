use Rattle.std.proofs.Common.{◌≡◌, []}
use Rattle.crossbeam_channel.specs.Claims.{view, IsSeatAt}
use Rattle.crossbeam_channel.specs.Ends.{sends_on}
use Rattle.apply_bus.specs.Bus.{new_senders}
use Rattle.apply_bus.specs.BusRule.{receiving}
use Rattle.apply_bus.proofs.opening.open.Given as goal

abbrev pub invariant-loop-worker : goal.invariant-loop-worker
invariant-loop-worker l = record {
  at : IsSeatAt (sends_on l.first) l.pass;
  seen : view l.pass ≡ receiving [] l.worker [];
  made : l.senders.items ≡ new_senders (record { table = (sends_on l.first).stamps.shared.table_id; key = (sends_on l.first).stamps.shared.key }) l.fn.capacity l.worker;
}
