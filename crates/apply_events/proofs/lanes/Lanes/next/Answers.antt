use Rattle.std.proofs.Common.{Some, None, subst, arith}
use Rattle.apply_events.specs.Lanes.Lane.{state_of}
use Rattle.apply_events.specs.Lanes.LaneState.{EmitsNext}
use Rattle.apply_events.specs.Lanes.ToCome.{work_of}
use Rattle.apply_events.proofs.Waits.LanesInCode.{all_emit, inside}
use Rattle.apply_events.proofs.lanes.Lanes.next.Goals as goal

pub index_mut-requires : goal.index_mut-requires
index_mut-requires g c =
    let lanes = c.args.self.now in
    let lt = inside lanes.lanes.items c.first-first.result lanes.some c.first-first.ensures in omega arith

-- ---- an event is emitted

pub returns-clause-next : goal.returns-clause-next
returns-clause-next g c =
    let lanes = c.args.self.now in let w = work_of lanes in
    let emits = subst (λ started. EmitsNext w started (state_of c.index_mut.result.now) (Some c.in-Some.event) (state_of c.next-next.new.self)) c.deref.ensures.value c.in-Some.ensures in
    let all = all_emit w lanes.started.items lanes.lanes.items c.first-first.result c.index_mut.result.now c.next-next.new.self (Some c.in-Some.event) lanes.emitted lanes.some c.first-first.ensures c.index_mut.ensures.value
    lanes.steady lanes.timed lanes.counted emits in
    all.next

pub returns-clause-of_plan : goal.returns-clause-of_plan
returns-clause-of_plan g c =
    let lanes = c.args.self.now in let w = work_of lanes in
    let emits = subst (λ started. EmitsNext w started (state_of c.index_mut.result.now) (Some c.in-Some.event) (state_of c.next-next.new.self)) c.deref.ensures.value c.in-Some.ensures in
    let all = all_emit w lanes.started.items lanes.lanes.items c.first-first.result c.index_mut.result.now c.next-next.new.self (Some c.in-Some.event) lanes.emitted lanes.some c.first-first.ensures c.index_mut.ensures.value
    lanes.steady lanes.timed lanes.counted emits in
    all.of_plan

pub invariant_of-self-2-clause-few : goal.invariant_of-self-2-clause-few
invariant_of-self-2-clause-few g c =
    let lanes = c.args.self.now in let w = work_of lanes in
    let emits = subst (λ started. EmitsNext w started (state_of c.index_mut.result.now) (Some c.in-Some.event) (state_of c.next-next.new.self)) c.deref.ensures.value c.in-Some.ensures in
    let all = all_emit w lanes.started.items lanes.lanes.items c.first-first.result c.index_mut.result.now c.next-next.new.self (Some c.in-Some.event) lanes.emitted lanes.some c.first-first.ensures c.index_mut.ensures.value
    lanes.steady lanes.timed lanes.counted emits in
    let few = lanes.few in let same = all.all in omega arith

pub invariant_of-self-2-clause-some : goal.invariant_of-self-2-clause-some
invariant_of-self-2-clause-some g c =
    let lanes = c.args.self.now in let w = work_of lanes in
    let emits = subst (λ started. EmitsNext w started (state_of c.index_mut.result.now) (Some c.in-Some.event) (state_of c.next-next.new.self)) c.deref.ensures.value c.in-Some.ensures in
    let all = all_emit w lanes.started.items lanes.lanes.items c.first-first.result c.index_mut.result.now c.next-next.new.self (Some c.in-Some.event) lanes.emitted lanes.some c.first-first.ensures c.index_mut.ensures.value
    lanes.steady lanes.timed lanes.counted emits in
    let some = lanes.some in let same = all.all in omega arith

pub invariant_of-self-2-clause-steady : goal.invariant_of-self-2-clause-steady
invariant_of-self-2-clause-steady g c =
    let lanes = c.args.self.now in let w = work_of lanes in
    let emits = subst (λ started. EmitsNext w started (state_of c.index_mut.result.now) (Some c.in-Some.event) (state_of c.next-next.new.self)) c.deref.ensures.value c.in-Some.ensures in
    let all = all_emit w lanes.started.items lanes.lanes.items c.first-first.result c.index_mut.result.now c.next-next.new.self (Some c.in-Some.event) lanes.emitted lanes.some c.first-first.ensures c.index_mut.ensures.value
    lanes.steady lanes.timed lanes.counted emits in
    all.steady

pub invariant_of-self-2-clause-counted : goal.invariant_of-self-2-clause-counted
invariant_of-self-2-clause-counted g c =
    let lanes = c.args.self.now in let w = work_of lanes in
    let emits = subst (λ started. EmitsNext w started (state_of c.index_mut.result.now) (Some c.in-Some.event) (state_of c.next-next.new.self)) c.deref.ensures.value c.in-Some.ensures in
    let all = all_emit w lanes.started.items lanes.lanes.items c.first-first.result c.index_mut.result.now c.next-next.new.self (Some c.in-Some.event) lanes.emitted lanes.some c.first-first.ensures c.index_mut.ensures.value
    lanes.steady lanes.timed lanes.counted emits in
    all.counted

-- ---- nothing is left

pub returns-in_default-clause-next : goal.returns-in_default-clause-next
returns-in_default-clause-next g c =
    let lanes = c.args.self.now in let w = work_of lanes in
    let emits = subst (λ started. EmitsNext w started (state_of c.index_mut.result.now) None (state_of c.next-next.new.self)) c.deref.ensures.value c.in_default.ensures in
    let all = all_emit w lanes.started.items lanes.lanes.items c.first-first.result c.index_mut.result.now c.next-next.new.self None lanes.emitted lanes.some c.first-first.ensures c.index_mut.ensures.value
    lanes.steady lanes.timed lanes.counted emits in
    all.next

pub invariant_of-self-clause-few : goal.invariant_of-self-clause-few
invariant_of-self-clause-few g c =
    let lanes = c.args.self.now in let w = work_of lanes in
    let emits = subst (λ started. EmitsNext w started (state_of c.index_mut.result.now) None (state_of c.next-next.new.self)) c.deref.ensures.value c.in_default.ensures in
    let all = all_emit w lanes.started.items lanes.lanes.items c.first-first.result c.index_mut.result.now c.next-next.new.self None lanes.emitted lanes.some c.first-first.ensures c.index_mut.ensures.value
    lanes.steady lanes.timed lanes.counted emits in
    let few = lanes.few in let same = all.all in omega arith

pub invariant_of-self-clause-some : goal.invariant_of-self-clause-some
invariant_of-self-clause-some g c =
    let lanes = c.args.self.now in let w = work_of lanes in
    let emits = subst (λ started. EmitsNext w started (state_of c.index_mut.result.now) None (state_of c.next-next.new.self)) c.deref.ensures.value c.in_default.ensures in
    let all = all_emit w lanes.started.items lanes.lanes.items c.first-first.result c.index_mut.result.now c.next-next.new.self None lanes.emitted lanes.some c.first-first.ensures c.index_mut.ensures.value
    lanes.steady lanes.timed lanes.counted emits in
    let some = lanes.some in let same = all.all in omega arith

pub invariant_of-self-clause-steady : goal.invariant_of-self-clause-steady
invariant_of-self-clause-steady g c =
    let lanes = c.args.self.now in let w = work_of lanes in
    let emits = subst (λ started. EmitsNext w started (state_of c.index_mut.result.now) None (state_of c.next-next.new.self)) c.deref.ensures.value c.in_default.ensures in
    let all = all_emit w lanes.started.items lanes.lanes.items c.first-first.result c.index_mut.result.now c.next-next.new.self None lanes.emitted lanes.some c.first-first.ensures c.index_mut.ensures.value
    lanes.steady lanes.timed lanes.counted emits in
    all.steady

pub invariant_of-self-clause-counted : goal.invariant_of-self-clause-counted
invariant_of-self-clause-counted g c =
    let lanes = c.args.self.now in let w = work_of lanes in
    let emits = subst (λ started. EmitsNext w started (state_of c.index_mut.result.now) None (state_of c.next-next.new.self)) c.deref.ensures.value c.in_default.ensures in
    let all = all_emit w lanes.started.items lanes.lanes.items c.first-first.result c.index_mut.result.now c.next-next.new.self None lanes.emitted lanes.some c.first-first.ensures c.index_mut.ensures.value
    lanes.steady lanes.timed lanes.counted emits in
    all.counted
