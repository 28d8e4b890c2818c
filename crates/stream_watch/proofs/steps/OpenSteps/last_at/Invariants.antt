use Rattle.std.proofs.Common.{◌≡◌, ◌≤◌, None, drop, length}
use Rattle.stream_watch.specs.Steps.{last_place, runs_at, steps_of}
use Rattle.stream_watch.proofs.steps.OpenSteps.last_at.Given as goal

-- no later step passes
abbrev pub invariant-loop-index : goal.invariant-loop-index
invariant-loop-index l = (l.index ≤ length l.self.list.items) × (last_place (runs_at l.address) (drop l.index (steps_of l.self)) ≡ None)

abbrev pub decreases-loop-index : goal.decreases-loop-index
decreases-loop-index l = l.index
