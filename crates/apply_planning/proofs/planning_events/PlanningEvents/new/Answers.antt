use Rattle.std.proofs.Common.{map, arith}
use Rattle.std.proofs.lemmas.List.{length-map}
use Rattle.apply_planning.specs.Lane.{state_of}
use Rattle.apply_planning.proofs.AtStart.{begun, early, is_time_line, steady, timed}
use Rattle.apply_planning.proofs.planning_events.PlanningEvents.new.Goals as goal

pub start_lanes-requires : goal.start_lanes-requires
start_lanes-requires c = begun c.args.told.now c.args.count c.requires.some c.requires.short c.args.started.now c.requires.started

pub invariant_of-result : goal.invariant_of-result
invariant_of-result c =
    let items = c.in_ok-lanes.lanes.items in
    let gone = c.in_ok-lanes.ensures in
    let all = gone.all in
    let size = length-map items state_of in
    let count = c.requires.some in
    record {
      some = omega arith;
      begun = begun c.args.told.now c.args.count c.requires.some c.requires.short c.args.started.now c.requires.started;
      timed = timed c.args.told.now c.args.count c.requires.some c.requires.short c.args.started.now c.requires.started;
      steady = steady c.args.told.now c.args.count c.requires.some c.requires.short c.args.started.now c.requires.started (map state_of items) gone;
      early = early c.args.told.now c.args.count c.requires.some c.requires.short c.args.started.now c.requires.started (map state_of items) gone;
    }

pub returns-clause-events : goal.returns-clause-events
returns-clause-events c = is_time_line c.args.told.now c.args.count c.requires.some c.requires.short c.args.started.now c.requires.started (map state_of c.in_ok-lanes.lanes.items) c.in_ok-lanes.ensures
