use Rattle.std.proofs.Common.{◌≡◌, ◌++◌, ◌≤◌, length, vec_capacity}
use Rattle.std.specs.Vec.Iter.{into_iter_items, into_iter_len}
use Rattle.apply_run.specs.Run.Threads.{EachAt}
use Rattle.apply_run.specs.Worker.Stopped.{IsStoppedWorker}
use Rattle.apply_run.proofs.run.threads.join_all.Given as goal

-- what the workers so far have done
abbrev pub invariant-loop-thread : goal.invariant-loop-thread
invariant-loop-thread g l = record {
  left : l.yielded ++ into_iter_items l.thread-iterator ≡ l.fn.threads.items;
  count : into_iter_len l.thread-iterator ≡ length (into_iter_items l.thread-iterator);
  here : length l.stopped.items ≡ length l.yielded;
  stopped : EachAt (IsStoppedWorker g.K.RunName.work g.K.RunName.claims g.K.RunName.bus) l.stopped.items;
  room : length l.fn.threads.items ≤ vec_capacity l.stopped;
}
