use Rattle.std.proofs.Common.{◌≡◌, ◌++◌, All, map, length}
use Rattle.std.specs.Vec.Iter.{into_iter_items, into_iter_len}
use Rattle.apply_bus.specs.Bus.{sent_list_of, IsTakenInPart}
use Rattle.apply_bus.proofs.taken.Taken.join_all_open.Given as goal

abbrev pub invariant-loop-tx : goal.invariant-loop-tx
invariant-loop-tx l = record {
  left : l.yielded ++ into_iter_items l.tx-iterator ≡ into_iter_items l.initial.tx-iterator;
  count : into_iter_len l.tx-iterator ≡ length (into_iter_items l.tx-iterator);
  joined : l.self ≡ record l.fn.self { sent_lists = l.fn.self.sent_lists ++ map sent_list_of l.yielded };
  part : All (IsTakenInPart l.fn.self.taken) (map sent_list_of l.yielded);
}
