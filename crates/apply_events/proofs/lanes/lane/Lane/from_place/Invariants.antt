use Rattle.std.proofs.Common.{◌≡◌, drop}
use Rattle.apply_hooks.specs.Registry.{rules_of}
use Rattle.apply_events.specs.Lanes.LaneState.{emitted_by}
use Rattle.apply_events.proofs.lanes.lane.Lane.from_place.Given as goal

-- the lane has no event of the turns so far
abbrev pub invariant-loop-next : goal.invariant-loop-next
invariant-loop-next g l =
    emitted_by (record { plan = l.plan; script = l.script; hooks = rules_of l.registry }) l.number (drop l.next l.started)
    ≡ emitted_by (record { plan = l.plan; script = l.script; hooks = rules_of l.registry }) l.number (drop l.place l.started)
