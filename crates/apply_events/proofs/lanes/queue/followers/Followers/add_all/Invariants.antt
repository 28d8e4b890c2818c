use Rattle.std.proofs.Common.{ℕ, take}
use Rattle.apply_model.specs.declared.script.wait.Wait.{Wait}
use Rattle.apply_events.specs.Waits.Queue.{Follow, with_waits_of}
use Rattle.apply_events.proofs.lanes.queue.followers.Followers.add_all.Given as goal

abbrev pub invariant-loop-item : goal.invariant-loop-item
invariant-loop-item l = (limit : ℕ) (count : Wait → ℕ → ℕ) → Follow limit count l.fn.self → Follow limit (with_waits_of count l.turn (take l.item l.steps)) l.self
