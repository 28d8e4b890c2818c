-- What follows of a stream of our own that was read back, by the laws of its parts.
use Rattle.std.proofs.Common.{◌≡◌, ◌∙◌, ◌++◌, ℕ, ℤ, Bool, List, [], Option, Some, option_map, sym, ap, ap₂, subst}
use Rattle.apply_model.specs.declared.details.note.Note.{Note}
use Rattle.apply_model.specs.Plan.SavedPlan.{SavedPlan}
use Rattle.apply_model.specs.Script.OutcomeMap.{OutcomeMap}
use Rattle.apply_events.specs.declared.event.Event.{Event}
use Rattle.apply_events.specs.Step.{Work}
use Rattle.apply_text.specs.Order.{hook_messages_of}
use Rattle.stream_record_steps.specs.Begun.{Begun, none_begun}
use Rattle.stream_record_steps.specs.Steps.{planned_steps}
use Rattle.stream_record_outcomes.specs.declared.recorded_step.RecordedStep.{RecordedStep}
use Rattle.stream_record_outcomes.specs.Assignment.{assignment_of, fit_of}
use Rattle.laws_begun.specs.Followed.{AreFollowed, AreWhole}
use Rattle.laws_begun.specs.Telling.{Telling, after_events}
use Rattle.laws_notes.specs.Told.{AreNotesTold, AreNotesToldAgain, HasNote, severity_of_end}
use Rattle.laws_texts.specs.TimeLines.{notes_by_ends}
use Rattle.laws_steps_again.specs.Again.{HasRecorded}
use Rattle.laws_steps_again.specs.ReadBack.{IsReadBack, Reading}
use Rattle.laws_steps_again.specs.Steps.{AreStepsAgain}
use Rattle.laws_steps_again.proofs.AllSteps.{steps_again}
use Rattle.laws_steps_again.proofs.NotesTold.{notes_are_told, told}
use Rattle.laws_steps_again.proofs.Recorded.{none_left, notes_again}
use Rattle.laws_steps_again.proofs.StepsKnown.{telling_with}

-- ---- the laws of the parts

-- Each step is known by its own lines.
abbrev pub FollowsSteps : Type 0
FollowsSteps = (telling : Telling) (first : ℕ) (start : ℤ) (events : List Event) (begun : Begun) → AreWhole telling.plan events
    → begun ≡ after_events telling start first events (none_begun (planned_steps telling.plan.changes)) → AreFollowed telling start first events begun

-- Diagnostics come again in their order.
abbrev pub GivesNotesAgain : Type 0
GivesNotesAgain = (is_default_form : Bool) (begun : Begun) (told : List (Option Note)) (loose : List Note) (notes : List Note)
    → AreNotesTold is_default_form begun told loose notes → AreNotesToldAgain is_default_form begun told notes (assignment_of is_default_form begun notes)

-- The diagnostic of a step has the severity that its end states.
abbrev pub HasSeverity : Type 0
HasSeverity = (is_default_form : Bool) (begun : Begun) (place : ℕ) (note : Note) (has : HasNote is_default_form begun place (Some note)) → note.severity ≡ severity_of_end has.end.result

-- The diagnostic of a step has the address of those that fit the step.
abbrev pub HasAddress : Type 0
HasAddress = (is_default_form : Bool) (begun : Begun) (place : ℕ) (note : Note) (has : HasNote is_default_form begun place (Some note))
    → option_map (λ fit. fit.address) (fit_of is_default_form has.step has.known) ≡ Some note.address

-- ---- a stream that was read back

module _ (work : Work) (n : ℕ) (events : List Event) (reading : Reading) (begun : Begun) (loose notes : List Note) (recorded : List (Option RecordedStep)) (left : List Note)
    (read : IsReadBack work n events reading begun loose notes recorded left) (follows : FollowsSteps) where
  telling_is : reading.telling ≡ telling_with work reading.telling.id
  telling_is = ap₂ (λ (plan : SavedPlan) (script : OutcomeMap). let one : Telling = record { plan = plan; script = script; id = reading.telling.id } in one) read.plan read.script

  pub followed : AreFollowed (telling_with work reading.telling.id) reading.start reading.first (hook_messages_of events) begun
  followed =
      follows (telling_with work reading.telling.id) reading.first reading.start (hook_messages_of events) begun read.whole
      (read.begun_is ∙ ap (λ (one : Telling). after_events one reading.start reading.first (hook_messages_of events) (none_begun (planned_steps work.plan.changes))) telling_is)

  pub is_followed : AreFollowed reading.telling reading.start reading.first (hook_messages_of events) begun
  is_followed = subst (λ (one : Telling). AreFollowed one reading.start reading.first (hook_messages_of events) begun) (sym telling_is) followed

  module _ (gives : GivesNotesAgain) (severity : HasSeverity) (address : HasAddress) where
    told_again : AreNotesToldAgain reading.is_default_form begun
        (told work n events read.own read.whole reading.telling.id reading.start reading.first begun followed reading.look reading.is_default_form read.form)
        notes (assignment_of reading.is_default_form begun notes)
    told_again =
        gives reading.is_default_form begun
        (told work n events read.own read.whole reading.telling.id reading.start reading.first begun followed reading.look reading.is_default_form read.form) loose notes
        (notes_are_told work n events read.own read.whole reading.telling.id reading.start reading.first begun followed reading.look reading.is_default_form read.form loose notes read.notes_are)

    pub steps_are_again : AreStepsAgain work n begun recorded reading.telling.id
    steps_are_again =
        steps_again work n events read.own read.whole reading.telling.id reading.start reading.first begun followed reading.look reading.is_default_form read.form
        notes recorded left read.recorded_are told_again (severity reading.is_default_form begun) (address reading.is_default_form begun)

    pub notes_are_again : (other : OutcomeMap) → HasRecorded work n recorded other → notes_by_ends reading.look.address work.plan other events ++ left ≡ notes
    notes_are_again =
        notes_again work n events read.own read.whole reading.telling.id reading.start reading.first begun followed reading.look reading.is_default_form read.form
        notes recorded left read.recorded_are told_again (severity reading.is_default_form begun) (address reading.is_default_form begun)

    pub none_is_left : loose ≡ [] → left ≡ []
    none_is_left =
        none_left work n events read.own read.whole reading.telling.id reading.start reading.first begun followed reading.look reading.is_default_form read.form
        notes recorded left read.recorded_are told_again (severity reading.is_default_form begun) (address reading.is_default_form begun) loose read.notes_are
