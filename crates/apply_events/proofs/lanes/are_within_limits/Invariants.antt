use Rattle.std.proofs.Common.{ℕ, ◌<◌}
use Rattle.apply_events.specs.Lanes.Startable.{AreWithinLimits}
use Rattle.apply_events.proofs.lanes.are_within_limits.Given as goal

abbrev pub invariant-loop-change : goal.invariant-loop-change
invariant-loop-change l = (c : ℕ) → c < l.change → AreWithinLimits l.plan l.script c
