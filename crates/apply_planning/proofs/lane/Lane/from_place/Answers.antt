use Rattle.std.proofs.Common.{get_or, sym, ◌∙◌}
use Rattle.std.proofs.lemmas.List.{get_or_default}
use Rattle.apply_events.specs.declared.lanes.turn.StartedTurn.{StartedTurn}
use Rattle.apply_planning.specs.ToldEvents.{left}
use Rattle.apply_planning.proofs.LaneSteps.{gone_on, has_begun, in_time}
use Rattle.apply_planning.proofs.lane.Lane.from_place.Goals as goal

-- what a place past the end of all begins would give
no_turn : StartedTurn
no_turn = record { turn = record { change = 0; first = 0; count = 0 }; lane = 0; begin = record { second = 0; round = 0 } }

pub bounds-told-turn : goal.bounds-told-turn
unfolding no_turn
bounds-told-turn c =
    let started = c.args.started.now in
    let next = c.loop-next.next in
    let turn = get_or started next no_turn in
    (has_begun c.args.told.now started c.requires next turn c.loop-next-test.true (get_or_default started next no_turn turn c.loop-next-test.true)).known

pub start-later_events-requires : goal.start-later_events-requires
unfolding no_turn
start-later_events-requires c =
    let started = c.args.started.now in
    let next = c.loop-next.next in
    let turn = get_or started next no_turn in
    in_time c.args.told.now started c.requires next turn c.loop-next-test.true (get_or_default started next no_turn turn c.loop-next-test.true) c.index-told-turn.result c.index-told-turn.is

-- the lane goes on from the object that stands at the place
pub returns-in-Some : goal.returns-in-Some
unfolding no_turn
returns-in-Some c =
    let started = c.args.started.now in
    let next = c.loop-next.next in
    let turn = get_or started next no_turn in
    gone_on c.args.told.now started c.requires next turn c.loop-next-test.true (get_or_default started next no_turn turn c.loop-next-test.true) c.index-told-turn.result c.index-told-turn.is
    c.args.number c.args.place c.in-Some.next_event (left c.next.new.self) c.if-turn-number.true (sym c.start-later_events.ensures ∙ c.in-Some.ensures) c.loop-next.invariant
