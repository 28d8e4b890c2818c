use Rattle.std.proofs.Common.{◌≡◌, ◌+◌, List, drop, get_or, sym, ◌∙◌}
use Rattle.std.proofs.lemmas.List.{get_or_default}
use Rattle.apply_hooks.specs.Registry.{rules_of}
use Rattle.apply_events.specs.declared.event.Event.{Event}
use Rattle.apply_events.specs.declared.lanes.turn.StartedTurn.{StartedTurn}
use Rattle.apply_events.specs.Lanes.LaneState.{emitted_by}
use Rattle.apply_events.specs.Step.{Work}
use Rattle.apply_events.proofs.Waits.OneLane.{gone_on, no_events, other_lane}
use Rattle.apply_events.proofs.lanes.lane.Lane.from_place.Goals as goal
use Rattle.apply_events.proofs.lanes.lane.Lane.from_place.Goals.{then-turn-number+else-is_some, else-turn-number}

-- what a place past the end of all turns would give
no_turn : StartedTurn
no_turn = record { turn = record { change = 0; first = 0; count = 0 }; lane = 0; begin = record { second = 0; round = 0 } }

-- the lane goes on from the turn that stands at the place
pub returns-then-is_some : goal.returns-then-is_some
unfolding no_turn
returns-then-is_some g c =
    let w : Work = record { plan = c.args.plan.now; script = c.args.script.now; hooks = rules_of c.args.registry.now } in
    let started = c.args.started.now in
    let next = c.loop-next.next in
    let turn = get_or started next no_turn in
    gone_on w c.args.number c.args.place next started turn c.begin-under_way.result c.loop-next-test.true (get_or_default started next no_turn turn c.loop-next-test.true)
    c.if-turn-number.true c.begin-under_way.ensures (sym c.is_some.ensures ∙ c.if-is_some.true) c.loop-next.invariant

still : (here later_events all : List Event) → here ≡ later_events → here ≡ all → later_events ≡ all
still here later_events all passed so_far = sym passed ∙ so_far

-- the lane has no event of that turn
pub loop-next-preserved : goal.loop-next-preserved
unfolding no_turn
loop-next-preserved g c =
    let w : Work = record { plan = c.args.plan.now; script = c.args.script.now; hooks = rules_of c.args.registry.now } in
    let lane = c.args.number in
    let started = c.args.started.now in
    let next = c.loop-next.next in
    let turn = get_or started next no_turn in
    let is = get_or_default started next no_turn turn c.loop-next-test.true in
    let passed : emitted_by w lane (drop next started) ≡ emitted_by w lane (drop (next + 1) started) =
    elim c.if-turn-number.branch [
      | then-turn-number+else-is_some b ↦ no_events w lane next started turn b.begin-under_way.result c.loop-next-test.true is b.if-turn-number.true b.begin-under_way.ensures (sym b.is_some.ensures ∙ b.if-is_some.false)
      | else-turn-number b ↦ other_lane w lane next started turn c.loop-next-test.true is b.if-turn-number.false
    ] in
    still (emitted_by w lane (drop next started)) (emitted_by w lane (drop (next + 1) started)) (emitted_by w lane (drop c.args.place started)) passed c.loop-next.invariant
