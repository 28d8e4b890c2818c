use Rattle.std.proofs.Common.{Bool, ap, get_or, set, sym, true, arith, ◌∙◌}
use Rattle.std.proofs.lemmas.List.{get_or_default, length-set}
use Rattle.apply_events.specs.declared.lanes.turn.StartedTurn.{StartedTurn}
use Rattle.apply_planning.proofs.LaneSteps.{has_begun, its_place}
use Rattle.apply_planning.proofs.Lost.{one_begun}
use Rattle.apply_planning.proofs.schedule.lost_of.Goals as goal

-- what a place past the end of all begins would give
no_turn : StartedTurn
no_turn = record { turn = record { change = 0; first = 0; count = 0 }; lane = 0; begin = record { second = 0; round = 0 } }

pub loop-place-preserved : goal.loop-place-preserved
unfolding no_turn
loop-place-preserved c =
    let told = c.args.told.now in
    let started = c.args.started.now in
    let place = c.loop-place.place in
    let turn = get_or started place no_turn in
    let lost = c.loop-place.lost.items in
    let is = get_or_default started place no_turn turn c.loop-place-test.true in
    let begun = has_begun told started c.requires place turn c.loop-place-test.true is in
    let known = begun.known in
    let size = c.loop-place.invariant.size in
    record {
      size = length-set lost turn.turn.change c.fails.result ∙ size;
      each = λ k lt. ap (λ (b : Bool). get_or (set lost turn.turn.change b) k true) c.fails.ensures
          ∙ one_begun told started place turn c.loop-place-test.true (sym is) begun.first c.index-told-number.result
          (its_place told started c.requires place turn c.loop-place-test.true is c.index-told-number.result c.index-told-number.is) lost (omega arith) c.loop-place.invariant.each k lt;
    }
