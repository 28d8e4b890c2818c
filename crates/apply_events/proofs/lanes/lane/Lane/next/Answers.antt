use Rattle.std.proofs.Common.{[], ◌∷◌, ap, ◌∙◌, sym}
use Rattle.apply_events.specs.Lanes.Lane.{begin_of, events_of}
use Rattle.apply_events.specs.Lanes.LaneState.{LaneState}
use Rattle.apply_events.specs.TurnRunner.{to_come}
use Rattle.apply_events.proofs.lanes.lane.Lane.next.Goals as goal

pub returns-in-Some : goal.returns-in-Some
returns-in-Some g c =
    let lane = c.args.self.now in
    let rest = c.in-Some.next ∷ to_come c.next.new.self in (
      rest,
      ap (λ turn. events_of turn) (sym c.in_ok-turn.ensures.value) ∙ ap (λ es. c.in_ok-turn.turn.next_event ∷ es) c.in-Some.ensures,
      ap (λ turn. let s : LaneState = record { number = lane.number; events = rest; begin = begin_of turn; place = lane.place } in s) c.in_ok-turn.ensures.value,
    )

pub returns-in-None : goal.returns-in-None
returns-in-None g c = (
  [],
  ap (λ turn. events_of turn) (sym c.in_ok-turn.ensures.value) ∙ ap (λ es. c.in_ok-turn.turn.next_event ∷ es) c.in-None.ensures.0,
  c.from_place.ensures,
)
