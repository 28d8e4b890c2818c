use Rattle.std.proofs.Common.{◌≡◌, map, arith}
use Rattle.apply_hooks.specs.Registry.{rules_of}
use Rattle.apply_events.specs.Lanes.Lane.{state_of}
use Rattle.apply_events.proofs.Waits.LanesInCode.{all_started, none_started, one_started}
use Rattle.apply_events.proofs.lanes.start_lanes.Goals as goal

pub loop-lane-init : goal.loop-lane-init
loop-lane-init g c = none_started (record { plan = c.args.plan.now; script = c.args.script.now; hooks = rules_of c.args.registry.now }) c.args.started.now c.in_ok-lanes.lanes.items c.in_ok-lanes.ensures.items

pub loop-lane-preserved : goal.loop-lane-preserved
loop-lane-preserved g c =
    one_started (record { plan = c.args.plan.now; script = c.args.script.now; hooks = rules_of c.args.registry.now }) c.args.started.now c.loop-lane.lanes.items c.push.new.self.items c.loop-lane.lane c.start.result
    c.in_ok-push.ensures.items c.start.ensures c.loop-lane.invariant

pub returns : goal.returns
returns g c =
    let all : c.loop-lane.lane ≡ c.args.count = omega arith in
    all_started (record { plan = c.args.plan.now; script = c.args.script.now; hooks = rules_of c.args.registry.now }) c.args.started.now c.loop-lane.lane c.args.count (map state_of c.loop-lane.lanes.items) all c.loop-lane.invariant
