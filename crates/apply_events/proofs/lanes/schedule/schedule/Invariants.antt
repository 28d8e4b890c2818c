use Rattle.std.proofs.Common.{◌-◌, length}
use Rattle.apply_hooks.specs.Registry.{rules_of}
use Rattle.apply_events.proofs.Waits.Scheduling.{IsUnderWay}
use Rattle.apply_events.proofs.lanes.schedule.schedule.Given as goal

abbrev pub decreases-loop-queue : goal.decreases-loop-queue
decreases-loop-queue g l = length l.turns.items - length l.all.items

abbrev pub invariant-loop-queue : goal.invariant-loop-queue
invariant-loop-queue g l = IsUnderWay (record { plan = l.plan; script = l.script; hooks = rules_of l.registry }) l.lanes l.queue l.free.items l.all.items
