use Rattle.std.proofs.Common.{◌≡◌, ◌+◌, ◌<◌, get_or, length, sym, ap, ◌∙◌, subst, arith}
use Rattle.apply_planning.specs.ToCome.{lane_times_of}
use Rattle.apply_events.specs.Waits.LaneTime.{first_lane_time, is_earlier}
use Rattle.apply_events.proofs.Waits.Earliest.{IsFirstEarliest, earliest_is, earliest_keeps, earliest_start, earliest_takes}
use Rattle.apply_planning.proofs.LanesInCode.{length_times, time_read}
use Rattle.apply_planning.proofs.planning_events.PlanningEvents.first.Goals as goal
use Rattle.apply_planning.proofs.planning_events.PlanningEvents.first.Goals.{then-is_earlier, else-is_earlier}

pub loop-lane-init : goal.loop-lane-init
loop-lane-init c =
    let some = c.args.self.now.some in
    (earliest_start (lane_times_of c.args.self.now), time_read c.args.self.now.lanes.items 0 c.index.result.now c.lane_time-least.result some c.index.ensures c.lane_time-least.ensures)

pub loop-lane-preserved : goal.loop-lane-preserved
loop-lane-preserved c =
    let ms = lane_times_of c.args.self.now in
    let items = c.args.self.now.lanes.items in
    let lane = c.loop-lane.lane in
    let count = c.len-lane-end.ensures in
    let lt : lane < length items = (let test = c.loop-lane-test.true in omega arith) in
    let here = time_read items lane c.index-in-loop-lane.result.now c.lane_time-lane_time.result lt c.index-in-loop-lane.ensures c.lane_time-lane_time.ensures in
    let there = c.loop-lane.invariant.1 in
    let test = c.is_earlier.ensures ∙ ap (λ m. is_earlier m c.loop-lane.least) here ∙ ap (is_earlier (get_or ms lane first_lane_time)) there in
    elim c.if-is_earlier.branch [
      | then-is_earlier v ↦ (
        subst (IsFirstEarliest ms (lane + 1)) (sym v.first-is) (earliest_takes ms lane c.loop-lane.first c.loop-lane.invariant.0 (sym test ∙ v.if-is_earlier.true)),
        v.least-is ∙ here ∙ ap (λ k. get_or ms k first_lane_time) (sym v.first-is),
      )
      | else-is_earlier v ↦ (
        subst (IsFirstEarliest ms (lane + 1)) (sym v.first-is) (earliest_keeps ms lane c.loop-lane.first c.loop-lane.invariant.0 (sym test ∙ v.if-is_earlier.false)),
        v.least-is ∙ there ∙ ap (λ k. get_or ms k first_lane_time) (sym v.first-is),
      )
    ]

pub returns : goal.returns
returns c =
    let ms = lane_times_of c.args.self.now in
    let count = c.len-lane-end.ensures in
    let size = length_times c.args.self.now.lanes.items in
    let some = c.args.self.now.some in
    let all : c.loop-lane.lane ≡ length ms = omega arith in
    earliest_is ms c.loop-lane.lane c.loop-lane.first c.loop-lane.invariant.0 all
