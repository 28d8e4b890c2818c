use Rattle.std.proofs.Common.{◌≡◌, ◌+◌, ◌++◌, ◌≤◌, length, vec_capacity}
use Rattle.std.specs.Vec.Iter.{into_iter_items, into_iter_len}
use Rattle.apply_run.specs.Run.Threads.{EachAt, IsNewSender, IsThreadOf}
use Rattle.apply_run.proofs.run.threads.start_all.Given as goal

-- a thread for each drawer so far
abbrev pub invariant-loop-drawer : goal.invariant-loop-drawer
invariant-loop-drawer g l = record {
  left : l.yielded ++ into_iter_items l.drawer-iterator ≡ l.fn.drawers.items;
  count : into_iter_len l.drawer-iterator ≡ length (into_iter_items l.drawer-iterator);
  here : length l.started.items ≡ length l.yielded;
  started : EachAt IsThreadOf l.started.items;
  room : length l.fn.drawers.items ≤ vec_capacity l.started;
  rest : EachAt (λ k sender. IsNewSender g.K.RunName.bus (length l.started.items + k) sender) (into_iter_items l.senders);
}
