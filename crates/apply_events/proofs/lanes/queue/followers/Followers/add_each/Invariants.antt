use Rattle.std.proofs.Common.{ℕ, take}
use Rattle.apply_model.specs.declared.script.wait.Wait.{Wait}
use Rattle.apply_events.specs.Waits.Queue.{Follow, with_waits_of}
use Rattle.apply_events.proofs.lanes.queue.followers.Followers.add_each.Given as goal

abbrev pub invariant-loop-step : goal.invariant-loop-step
invariant-loop-step l = (limit : ℕ) (count : Wait → ℕ → ℕ) → Follow limit count l.fn.self → Follow limit (with_waits_of count l.turn (take l.step-index l.steps)) l.self
