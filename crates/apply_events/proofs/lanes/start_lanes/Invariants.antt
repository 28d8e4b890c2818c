use Rattle.std.proofs.Common.{map}
use Rattle.apply_hooks.specs.Registry.{rules_of}
use Rattle.apply_events.specs.Lanes.Lane.{state_of}
use Rattle.apply_events.specs.Lanes.LaneState.{HaveGoneOn}
use Rattle.apply_events.proofs.lanes.start_lanes.Given as goal

abbrev pub invariant-loop-lane : goal.invariant-loop-lane
invariant-loop-lane g l = HaveGoneOn (record { plan = l.plan; script = l.script; hooks = rules_of l.registry }) l.started l.lane (map state_of l.lanes.items)
