use Rattle.std.proofs.Common.{arith}
use Rattle.apply_planning.specs.PlanningWork.{planning_work}
use Rattle.apply_planning.proofs.LanesInCode.{all_emit, in_time_next, inside, known}
use Rattle.apply_planning.proofs.planning_events.PlanningEvents.next.Goals as goal

pub index_mut-requires : goal.index_mut-requires
index_mut-requires c =
    let events = c.args.self.now in
    let lt = inside events.lanes.items c.first-first.result events.some c.first-first.ensures in omega arith

pub returns-clause-next : goal.returns-clause-next
returns-clause-next c =
    let events = c.args.self.now in
    (all_emit (planning_work events.told.now) events.started.now events.lanes.items c.first-first.result c.index_mut.result.now c.next.new.self c.next.result
    events.some c.first-first.ensures c.index_mut.ensures.value events.steady events.timed c.next.ensures).next

pub returns-clause-known : goal.returns-clause-known
returns-clause-known c =
    let events = c.args.self.now in
    known events.told.now c.next.result
    (all_emit (planning_work events.told.now) events.started.now events.lanes.items c.first-first.result c.index_mut.result.now c.next.new.self c.next.result
    events.some c.first-first.ensures c.index_mut.ensures.value events.steady events.timed c.next.ensures).of_plan

pub invariant_of-self-clause-some : goal.invariant_of-self-clause-some
invariant_of-self-clause-some c =
    let events = c.args.self.now in
    let same = (all_emit (planning_work events.told.now) events.started.now events.lanes.items c.first-first.result c.index_mut.result.now c.next.new.self c.next.result
    events.some c.first-first.ensures c.index_mut.ensures.value events.steady events.timed c.next.ensures).all in
    let some = events.some in omega arith

pub invariant_of-self-clause-steady : goal.invariant_of-self-clause-steady
invariant_of-self-clause-steady c =
    let events = c.args.self.now in
    (all_emit (planning_work events.told.now) events.started.now events.lanes.items c.first-first.result c.index_mut.result.now c.next.new.self c.next.result
    events.some c.first-first.ensures c.index_mut.ensures.value events.steady events.timed c.next.ensures).steady

pub returns-clause-in_time : goal.returns-clause-in_time
returns-clause-in_time c =
    let events = c.args.self.now in
    (in_time_next c.next.result _ _
    (all_emit (planning_work events.told.now) events.started.now events.lanes.items c.first-first.result c.index_mut.result.now c.next.new.self c.next.result
    events.some c.first-first.ensures c.index_mut.ensures.value events.steady events.timed c.next.ensures).next events.early).0

pub invariant_of-self-clause-early : goal.invariant_of-self-clause-early
invariant_of-self-clause-early c =
    let events = c.args.self.now in
    (in_time_next c.next.result _ _
    (all_emit (planning_work events.told.now) events.started.now events.lanes.items c.first-first.result c.index_mut.result.now c.next.new.self c.next.result
    events.some c.first-first.ensures c.index_mut.ensures.value events.steady events.timed c.next.ensures).next events.early).1
