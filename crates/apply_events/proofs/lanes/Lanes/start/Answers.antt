use Rattle.std.proofs.Common.{All, map, subst, sym, arith}
use Rattle.std.proofs.lemmas.List.{length-map}
use Rattle.apply_hooks.specs.Registry.{rules_of}
use Rattle.apply_events.specs.Lanes.Lane.{state_of}
use Rattle.apply_events.specs.Lanes.LaneState.{HaveGoneOn}
use Rattle.apply_events.specs.Lanes.Startable.{IsStartable}
use Rattle.apply_events.specs.Step.{Work}
use Rattle.apply_events.proofs.Waits.AtStart.{counted, is_time_line, startable, steady, timed}
use Rattle.apply_events.proofs.lanes.Lanes.start.Goals as goal

pub start_lanes-requires : goal.start_lanes-requires
start_lanes-requires g c =
    let w : Work = record { plan = c.args.plan.now; script = c.args.script.now; hooks = rules_of c.args.registry.now } in
    let started = c.in_ok-started.started.items in
    subst (All (IsStartable w)) (sym c.deref.ensures.value) (startable w c.args.count c.requires.some c.are_within_limits.ensures.changes c.are_within_limits.ensures.steps started c.in_ok-started.ensures)

pub invariant_of-result-clause-few : goal.invariant_of-result-clause-few
invariant_of-result-clause-few g c =
    let w : Work = record { plan = c.args.plan.now; script = c.args.script.now; hooks = rules_of c.args.registry.now } in
    let started = c.in_ok-started.started.items in
    let gone = subst (λ l. HaveGoneOn w l c.args.count (map state_of c.in_ok-lanes.lanes.items)) c.deref.ensures.value c.in_ok-lanes.ensures in
    let few = c.requires.few in let all = gone.all in let size = length-map c.in_ok-lanes.lanes.items state_of in omega arith

pub invariant_of-result-clause-some : goal.invariant_of-result-clause-some
invariant_of-result-clause-some g c =
    let w : Work = record { plan = c.args.plan.now; script = c.args.script.now; hooks = rules_of c.args.registry.now } in
    let started = c.in_ok-started.started.items in
    let gone = subst (λ l. HaveGoneOn w l c.args.count (map state_of c.in_ok-lanes.lanes.items)) c.deref.ensures.value c.in_ok-lanes.ensures in
    let some = c.requires.some in let all = gone.all in let size = length-map c.in_ok-lanes.lanes.items state_of in omega arith

pub invariant_of-result-clause-startable : goal.invariant_of-result-clause-startable
invariant_of-result-clause-startable g c =
    let w : Work = record { plan = c.args.plan.now; script = c.args.script.now; hooks = rules_of c.args.registry.now } in
    let started = c.in_ok-started.started.items in
    startable w c.args.count c.requires.some c.are_within_limits.ensures.changes c.are_within_limits.ensures.steps started c.in_ok-started.ensures

pub invariant_of-result-clause-timed : goal.invariant_of-result-clause-timed
invariant_of-result-clause-timed g c =
    let w : Work = record { plan = c.args.plan.now; script = c.args.script.now; hooks = rules_of c.args.registry.now } in
    let started = c.in_ok-started.started.items in
    timed w c.args.count c.requires.some c.are_within_limits.ensures.changes c.are_within_limits.ensures.steps started c.in_ok-started.ensures

pub invariant_of-result-clause-steady : goal.invariant_of-result-clause-steady
invariant_of-result-clause-steady g c =
    let w : Work = record { plan = c.args.plan.now; script = c.args.script.now; hooks = rules_of c.args.registry.now } in
    let started = c.in_ok-started.started.items in
    let gone = subst (λ l. HaveGoneOn w l c.args.count (map state_of c.in_ok-lanes.lanes.items)) c.deref.ensures.value c.in_ok-lanes.ensures in
    steady w c.args.count c.requires.some c.are_within_limits.ensures.changes c.are_within_limits.ensures.steps started c.in_ok-started.ensures (map state_of c.in_ok-lanes.lanes.items) gone

pub invariant_of-result-clause-counted : goal.invariant_of-result-clause-counted
invariant_of-result-clause-counted g c =
    let w : Work = record { plan = c.args.plan.now; script = c.args.script.now; hooks = rules_of c.args.registry.now } in
    let started = c.in_ok-started.started.items in
    let gone = subst (λ l. HaveGoneOn w l c.args.count (map state_of c.in_ok-lanes.lanes.items)) c.deref.ensures.value c.in_ok-lanes.ensures in
    counted w c.args.count c.requires.some c.are_within_limits.ensures.changes c.are_within_limits.ensures.steps started c.in_ok-started.ensures (map state_of c.in_ok-lanes.lanes.items) gone

pub returns-clause-events : goal.returns-clause-events
returns-clause-events g c =
    let w : Work = record { plan = c.args.plan.now; script = c.args.script.now; hooks = rules_of c.args.registry.now } in
    let started = c.in_ok-started.started.items in
    let gone = subst (λ l. HaveGoneOn w l c.args.count (map state_of c.in_ok-lanes.lanes.items)) c.deref.ensures.value c.in_ok-lanes.ensures in
    is_time_line w c.args.count c.requires.some c.are_within_limits.ensures.changes c.are_within_limits.ensures.steps started c.in_ok-started.ensures (map state_of c.in_ok-lanes.lanes.items) gone
