use Rattle.std.proofs.Common.{◌+◌, ap, get_or, arith, inl, refl, sym, ◌∙◌}
use Rattle.std.specs.Prelude.{max}
use Rattle.std.proofs.lemmas.List.{get_or_default}
use Rattle.apply_events.specs.declared.lanes.turn.StartedTurn.{StartedTurn}
use Rattle.apply_planning.specs.declared.told.Told.{Told}
use Rattle.apply_planning.proofs.LaneSteps.{has_begun, in_time}
use Rattle.apply_planning.proofs.LastEvent.{greater, one_end}
use Rattle.apply_planning.proofs.schedule.end_of.Goals as goal

-- what a place past the end of all begins would give
no_turn : StartedTurn
no_turn = record { turn = record { change = 0; first = 0; count = 0 }; lane = 0; begin = record { second = 0; round = 0 } }

pub loop-place-init : goal.loop-place-init
loop-place-init c = record { low = λ k d lt. absurd (omega arith); in_time = omega arith; met = inl refl }

pub bounds-told-turn : goal.bounds-told-turn
unfolding no_turn
bounds-told-turn c =
    let started = c.args.started.now in
    let place = c.loop-place.place in
    let turn = get_or started place no_turn in
    (has_begun c.args.told.now started c.requires place turn c.loop-place-test.true (get_or_default started place no_turn turn c.loop-place-test.true)).known

pub overflow_add-end : goal.overflow_add-end
unfolding no_turn
overflow_add-end c =
    let started = c.args.started.now in
    let place = c.loop-place.place in
    let turn = get_or started place no_turn in
    let low = in_time c.args.told.now started c.requires place turn c.loop-place-test.true (get_or_default started place no_turn turn c.loop-place-test.true) c.index-told-turn.result c.index-told-turn.is in
    record { fits = omega arith }

pub loop-place-preserved : goal.loop-place-preserved
unfolding no_turn
loop-place-preserved c =
    let started = c.args.started.now in
    let place = c.loop-place.place in
    let turn = get_or started place no_turn in
    one_end c.args.told.now started c.requires place turn c.loop-place-test.true (get_or_default started place no_turn turn c.loop-place-test.true) c.index-told-turn.result c.index-told-turn.is
    c.loop-place.ends c.max-ends.result
    (c.max-ends.ensures ∙ greater c.loop-place.ends (turn.begin.second + (get_or c.args.told.now turn.turn.change c.index-told-turn.result).seconds) ∙ ap (λ (x : Told). max c.loop-place.ends (turn.begin.second + x.seconds)) (sym c.index-told-turn.is)) c.loop-place.invariant

pub returns : goal.returns
returns c = record {
  low = λ k d lt. c.loop-place.invariant.low k d (omega arith);
  in_time = c.loop-place.invariant.in_time;
  met = c.loop-place.invariant.met;
}
