use Rattle.std.proofs.Common.{◌≡◌, map, arith, subst}
use Rattle.apply_events.specs.Lanes.LaneState.{HaveGoneOn}
use Rattle.apply_planning.specs.Lane.{state_of}
use Rattle.apply_planning.specs.PlanningWork.{planning_work}
use Rattle.apply_planning.proofs.LanesInCode.{none_started, one_started}
use Rattle.apply_planning.proofs.planning_events.start_lanes.Goals as goal

pub loop-lane-init : goal.loop-lane-init
loop-lane-init c = none_started (planning_work c.args.told.now) c.args.started.now c.in_ok-lanes.lanes.items c.in_ok-lanes.ensures.items

pub loop-lane-preserved : goal.loop-lane-preserved
loop-lane-preserved c =
    one_started (planning_work c.args.told.now) c.args.started.now c.loop-lane.lanes.items c.push.new.self.items c.loop-lane.lane c.from_place.result
    c.in_ok-push.ensures.items c.from_place.ensures c.loop-lane.invariant

pub returns : goal.returns
returns c =
    let all : c.loop-lane.lane ≡ c.args.count = omega arith in
    subst (λ k. HaveGoneOn (planning_work c.args.told.now) c.args.started.now k (map state_of c.loop-lane.lanes.items)) all c.loop-lane.invariant
