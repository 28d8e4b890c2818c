use Rattle.std.proofs.Common.{◌≡◌, ◌++◌, All, map, length}
use Rattle.std.specs.Vec.Iter.{into_iter_items, into_iter_len}
use Rattle.apply_bus.specs.Bus.{sent_list_of, IsTakenInPart, IsTakenWhole}
use Rattle.apply_bus.specs.Items.{closes}
use Rattle.apply_bus.proofs.taken.Taken.join_all_closed.Given as goal

abbrev pub invariant-loop-sender : goal.invariant-loop-sender
invariant-loop-sender l = record {
  left : l.yielded ++ into_iter_items l.sender-iterator ≡ into_iter_items l.initial.sender-iterator;
  count : into_iter_len l.sender-iterator ≡ length (into_iter_items l.sender-iterator);
  joined : l.self ≡ record l.fn.self { sent_lists = l.fn.self.sent_lists ++ map sent_list_of l.yielded };
  part : All (IsTakenInPart l.fn.self.taken) (map sent_list_of l.yielded);
  whole : closes l.fn.self.taken ≡ l.fn.self.workers → All (IsTakenWhole l.fn.self.taken) (map sent_list_of l.yielded);
}
