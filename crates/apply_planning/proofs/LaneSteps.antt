-- A lane goes on to its next object.
use Rattle.std.proofs.Common.{◌≡◌, ℕ, suc, ◌+◌, ◌<◌, ◌≤◌, All, List, [], ◌∷◌, ◌++◌, Some, cond, drop, get_or, length, refl, sym, ap, ◌∙◌, subst, inr, arith, eqb, eq-eqb, drop-cons}
use Rattle.std.specs.List.{Contains}
use Rattle.std.proofs.lemmas.List.Elements.{All-contains, Contains-get_or}
use Rattle.std.specs.Prelude.{slice_get}
use Rattle.std.proofs.lemmas.Option.{slice_get_read}
use Rattle.apply_events.specs.declared.event.Event.{Event}
use Rattle.apply_events.specs.declared.lanes.lane_time.LaneTime.{LaneTime}
use Rattle.apply_events.specs.declared.lanes.turn.StartedTurn.{StartedTurn}
use Rattle.apply_events.specs.Lanes.LaneState.{HasGoneOn, emitted_by}
use Rattle.apply_events.specs.Waits.Done.{end_of_turn}
use Rattle.apply_events.specs.Waits.TimeLine.{turn_events}
use Rattle.apply_events.specs.Waits.Turn.{single}
use Rattle.apply_events.proofs.Waits.Moments.{later_by_second}
use Rattle.apply_planning.specs.declared.told.Told.{Told}
use Rattle.apply_planning.specs.Begun.{HasBegun}
use Rattle.apply_planning.specs.PlanningWork.{max_seconds_in_all, planning_work}
use Rattle.apply_planning.specs.ToldEvents.{events_of}
use Rattle.apply_planning.proofs.Started.{its_end}
use Rattle.apply_planning.proofs.TurnEvents.{its_events}

-- such a turn is the only one of its object
pub whole : (told : List Told) (one : StartedTurn) → HasBegun told one → (let t : StartedTurn = record { turn = single one.turn.change 0; lane = one.lane; begin = one.begin } in t) ≡ one
whole told one begun =
    ap (λ f. let t : StartedTurn = record { turn = record { change = one.turn.change; first = f; count = 1 }; lane = one.lane; begin = one.begin } in t) (sym begun.first)
    ∙ ap (λ n. let t : StartedTurn = record { turn = record { change = one.turn.change; first = one.turn.first; count = n }; lane = one.lane; begin = one.begin } in t) (sym begun.count)

module _ (told : List Told) (started : List StartedTurn) (begun : All (HasBegun told) started) (place : ℕ) (one : StartedTurn) (lt : place < length started) (is : one ≡ get_or started place one) where
  pub there : Contains started one
  there = subst (Contains started) (sym is) (Contains-get_or started place one lt)

  pub has_begun : HasBegun told one
  has_begun = All-contains (HasBegun told) started one begun there

  whole_turn : record { turn = single one.turn.change 0; lane = one.lane; begin = one.begin } ≡ one
  whole_turn = whole told one has_begun

  module _ (object : Told) (read : object ≡ get_or told one.turn.change object) where
    pub its_place : slice_get told one.turn.change ≡ Some object
    its_place = slice_get_read told (length told) one.turn.change object refl has_begun.known read

    pub ends_then : (end_of_turn (planning_work told) one).second ≡ one.begin.second + object.seconds
    ends_then =
        ap (λ (x : StartedTurn). (end_of_turn (planning_work told) x).second) (sym whole_turn)
        ∙ ap (λ (m : LaneTime). m.second) (its_end told one.turn.change object its_place one.lane one.begin) ∙ later_by_second one.begin object.seconds

    pub in_time : one.begin.second + object.seconds ≤ max_seconds_in_all
    in_time = let low = has_begun.in_time in let ends = ends_then in omega arith

    pub events_are : turn_events (planning_work told) one ≡ events_of object one
    events_are =
        ap (turn_events (planning_work told)) (sym whole_turn)
        ∙ its_events told one.turn.change object its_place one.lane one.begin
        ∙ ap (events_of object) whole_turn

    own_turn : (lane : ℕ) → one.lane ≡ lane → emitted_by (planning_work told) lane (drop place started) ≡ turn_events (planning_work told) one ++ emitted_by (planning_work told) lane (drop (place + 1) started)
    own_turn lane own =
        let next : suc place ≡ place + 1 = omega arith in
        ap (emitted_by (planning_work told) lane) (drop-cons started place one lt)
        ∙ ap (λ (x : StartedTurn). cond (eqb x.lane lane) (turn_events (planning_work told) x) [] ++ emitted_by (planning_work told) lane (drop (suc place) started)) (sym is)
        ∙ ap (λ t. cond t (turn_events (planning_work told) one) [] ++ emitted_by (planning_work told) lane (drop (suc place) started)) (eq-eqb one.lane lane own)
        ∙ ap (λ k. turn_events (planning_work told) one ++ emitted_by (planning_work told) lane (drop k started)) next

    pub gone_on : (lane from : ℕ) (event : Event) (later : List Event) → one.lane ≡ lane → events_of object one ≡ event ∷ later
        → emitted_by (planning_work told) lane (drop place started) ≡ emitted_by (planning_work told) lane (drop from started)
        → HasGoneOn (planning_work told) started lane from (record { number = lane; events = event ∷ later; begin = one.begin; place = place + 1 })
    gone_on lane from event later own events so_far = record {
      number = refl;
      left = sym so_far ∙ own_turn lane own ∙ ap (λ es. es ++ emitted_by (planning_work told) lane (drop (place + 1) started)) (events_are ∙ events);
      over = λ none. absurd (let no : event ∷ later ≡ [] = none in cc);
      turn = inr (one, there, refl, sym (events_are ∙ events));
    }
