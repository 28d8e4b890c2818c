use Rattle.std.proofs.Common.{[], ◌∷◌, ap, ◌∙◌, sym}
use Rattle.apply_events.specs.Lanes.LaneState.{LaneState}
use Rattle.apply_planning.specs.Lane.{begin_of, events_under_way}
use Rattle.apply_planning.specs.ToldEvents.{left}
use Rattle.apply_planning.proofs.lane.Lane.next.Goals as goal

pub returns-in-Some : goal.returns-in-Some
returns-in-Some c =
    let lane = c.args.self.now in
    let rest = c.in-Some.next ∷ left c.next.new.self in (
      rest,
      ap (λ object. events_under_way object) (sym c.in_ok-object.ensures.value) ∙ ap (λ es. c.in_ok-object.object.next_event ∷ es) c.in-Some.ensures,
      ap (λ object. let s : LaneState = record { number = lane.number; events = rest; begin = begin_of object; place = lane.place } in s) c.in_ok-object.ensures.value,
    )

pub returns-in-None : goal.returns-in-None
returns-in-None c = (
  [],
  ap (λ object. events_under_way object) (sym c.in_ok-object.ensures.value) ∙ ap (λ es. c.in_ok-object.object.next_event ∷ es) c.in-None.ensures.0,
  c.from_place.ensures,
)
