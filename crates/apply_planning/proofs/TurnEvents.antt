-- The events of the only turn of a told object.
use Rattle.std.proofs.Common.{◌≡◌, ℕ, ◌+◌, true, false, ◌||◌, List, [], ◌∷◌, ◌++◌, Option, Some, None, cond, map, refl, ap, ◌∙◌, arith}
use Rattle.std.specs.Prelude.{is_some, slice_get}
use Rattle.std.proofs.lemmas.List.{append-nil}
use Rattle.apply_model.specs.declared.details.note.Note.{Note}
use Rattle.apply_model.specs.declared.details.note.Severity.{Severity}
use Rattle.apply_model.specs.declared.details.note.Severity.TheVariants.{Error, Warning}
use Rattle.apply_model.specs.declared.plan.step_kind.StepKind.TheVariants.{Read}
use Rattle.apply_model.specs.declared.script.ending.Ending.{Ending}
use Rattle.apply_model.specs.declared.script.outcome.Outcome.{Outcome}
use Rattle.apply_model.specs.Script.Outcome.{fails, is_failed, is_warned, ran, seconds_after, seconds_before, seconds_of_all}
use Rattle.apply_events.specs.declared.event.Event.{Event}
use Rattle.apply_events.specs.declared.lanes.lane_time.LaneTime.{LaneTime}
use Rattle.apply_events.specs.declared.lanes.turn.StartedTurn.{StartedTurn}
use Rattle.apply_events.specs.declared.what.What.{What}
use Rattle.apply_events.specs.declared.what.What.TheVariants.{Start, WarnNote}
use Rattle.apply_events.specs.ChangeEvents.{in_turn}
use Rattle.apply_events.specs.Provisions.{along, progress}
use Rattle.apply_events.specs.Step.{Step, has_warning, step_of}
use Rattle.apply_events.specs.StepEvents.{emits_end, end_of, notes, step_events, step_time}
use Rattle.apply_events.specs.Waits.TimeLine.{turn_events}
use Rattle.apply_events.specs.Waits.Turn.{single}
use Rattle.apply_planning.specs.declared.told.Told.{Told}
use Rattle.apply_planning.specs.PlanningWork.{ending_by, ending_of, is_error, is_severe, outcome_of_told, planning_work}
use Rattle.apply_planning.specs.ToldEvents.{ends, events_of, told_event}
use Rattle.apply_planning.proofs.PlannedWork.{begun_one, outcome_is}

-- the events at the end, by the ending
abbrev ends_by : (seconds : ℕ) → Ending → List What
ends_by seconds ending =
    cond (emits_end (is_failed ending || false) (is_warned ending))
    (end_of (is_failed ending || false) seconds ∷ notes (is_failed ending || false) (has_warning ending))
    (WarnNote ∷ [])

ends_are : (seconds : ℕ) (failure : Option Note) → ends_by seconds (ending_of failure) ≡ ends seconds (is_error failure) (is_some failure)
ends_are seconds None = refl
ends_are seconds (Some note) = by_severity note.severity
  where
    by_severity : (severity : Severity) → ends_by seconds (ending_by severity note.diag) ≡ ends seconds (is_severe severity) true
    by_severity Error = refl
    by_severity Warning = refl

module _ (told : List Told) (c : ℕ) (one : Told) (is : slice_get told c ≡ Some one) (lane : ℕ) (begin : LaneTime) where
  abbrev turn : StartedTurn
  turn = record { turn = single c 0; lane = lane; begin = begin }

  -- the events of a step with such an outcome that takes so many seconds
  abbrev by_outcome : (seconds before : ℕ) → Outcome → List Event
  by_outcome seconds before o =
      told_event turn begin.second Start
      ∷ (map (λ p. told_event turn (begin.second + p.0) p.1) (along seconds 0 0 before (ran o.provisioners))
      ++ map (λ what. told_event turn (begin.second + seconds) what) (cond (emits_end (fails o) (is_warned o.result)) (end_of (fails o) seconds ∷ notes (fails o) (has_warning o.result)) (WarnNote ∷ []))
      ++ [])

  pub its_events : turn_events (planning_work told) (record { turn = single c 0; lane = lane; begin = begin }) ≡ events_of one (record { turn = single c 0; lane = lane; begin = begin })
  its_events =
      let step = step_of (planning_work told) c 0 Read in
      let whole : one.seconds + 0 + 0 ≡ one.seconds = omega arith in
      let at_start : begin.second ≡ begin.second + 0 = omega arith in
      let rest = map (λ p. told_event turn (begin.second + p.0) p.1) (progress one.seconds 0 one.seconds) in
      ap (λ (steps : List Step). in_turn (step_events lane) step_time steps begin.second) (begun_one told c one is)
      ∙ append-nil (step_events lane step begin.second)
      ∙ ap (λ (o : Outcome). by_outcome (seconds_before Read o + seconds_of_all (ran o.provisioners) + seconds_after Read o) (seconds_before Read o) o) (outcome_is told c one is)
      ∙ ap (λ seconds. by_outcome seconds one.seconds (outcome_of_told told one)) whole
      ∙ ap (λ (whats : List What). told_event turn begin.second Start ∷ (rest ++ map (λ what. told_event turn (begin.second + one.seconds) what) whats ++ [])) (ends_are one.seconds one.failure)
      ∙ ap (λ (es : List Event). told_event turn begin.second Start ∷ es) (append-nil (rest ++ map (λ what. told_event turn (begin.second + one.seconds) what) (ends one.seconds (is_error one.failure) (is_some one.failure))))
      ∙ ap (λ at. told_event turn at Start ∷ (rest ++ map (λ what. told_event turn (begin.second + one.seconds) what) (ends one.seconds (is_error one.failure) (is_some one.failure)))) at_start
