use Rattle.std.proofs.Common.{◌≡◌, ◌++◌, length}
use Rattle.std.specs.Vec.Iter.{into_iter_items, into_iter_len}
use Rattle.apply_bus.proofs.dealt_numbers.finish.Given as goal

abbrev pub invariant-loop-drawer : goal.invariant-loop-drawer
invariant-loop-drawer l = record {
  left : l.yielded ++ into_iter_items l.drawer-iterator ≡ into_iter_items l.initial.drawer-iterator;
  count : into_iter_len l.drawer-iterator ≡ length (into_iter_items l.drawer-iterator);
  joined : l.drawer_join ≡ record { claims = l.fn.claims; drawings = l.yielded };
}
