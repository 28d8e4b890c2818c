-- The diagnostics of the steps of a run fit the steps as `record` knows them.
use Rattle.std.proofs.Common.{◌≡◌, ◌∙◌, ℕ, ℤ, Bool, true, List, [], ◌∷◌, ◌++◌, map, Option, Some, None, option_map, not, All, refl, sym, ap, subst, subst₂}
use Rattle.std.specs.Prelude.{if◌then◌else◌, option_and_then, slice_get}
use Rattle.std.specs.List.{Contains, cons_option, filter_map}
use Rattle.std.specs.Option.{option_map_or}
use Rattle.apply_model.specs.declared.details.note.Note.{Note}
use Rattle.apply_model.specs.declared.details.note.Severity.TheVariants.{Warning}
use Rattle.apply_model.specs.declared.plan.step_kind.StepKind.{StepKind}
use Rattle.apply_model.specs.declared.script.outcome.Outcome.{Outcome}
use Rattle.apply_model.specs.Plan.ResourceChange.{ResourceChange}
use Rattle.apply_model.specs.Script.Outcome.{fails}
use Rattle.apply_model.specs.Script.OutcomeMap.{OutcomeMap, outcome_of}
use Rattle.apply_events.specs.declared.event.Event.{Event}
use Rattle.apply_events.specs.Diagnostics.{is_note}
use Rattle.apply_events.specs.Step.{Work, kinds_of}
use Rattle.apply_events.specs.Waits.Schedule.{schedule}
use Rattle.apply_events.proofs.Waits.Members.{any_in, filter_in, in_head, in_tail}
use Rattle.apply_text.specs.Order.{hook_messages_of}
use Rattle.stream_record_steps.specs.declared.begun_step.StepEnd.{StepEnd}
use Rattle.stream_record_steps.specs.Begun.{Begun}
use Rattle.stream_record_outcomes.specs.Assignment.{Fit, fit_of, fit_of_end, fit_without_end}
use Rattle.laws_lanes.specs.Alike.{is_begun}
use Rattle.laws_begun.specs.Followed.{AreFollowed, AreWhole, is_end, is_of_step}
use Rattle.laws_notes.specs.Told.{AreDistinct, AreNotesTold, FitsStep, HasNote, HaveNotes}
use Rattle.laws_outcomes.specs.Told.{result_of}
use Rattle.laws_texts.specs.Streams.{note_of_step, told_after}
use Rattle.laws_steps_again.specs.Again.{IsInForm, Look, note_shown, notes_shown}
use Rattle.laws_steps_again.specs.Own.{IsOwn}
use Rattle.laws_steps_again.specs.Places.{step_of_plan}
use Rattle.laws_steps_again.proofs.EndPlaces.{all_of_plan, distinct_ends, end_places, ends, ends_are, is_own_step, place, starts_end}
use Rattle.laws_steps_again.proofs.Fitting.{note_fits}
use Rattle.laws_steps_again.proofs.Forms.{addressed, error_fits, warns_at_address}
use Rattle.laws_steps_again.proofs.Planned.{IsInPlan}
use Rattle.laws_steps_again.proofs.StepsKnown.{IsStepKnown, fails_by_provisioner, step_known, telling_with}
use Rattle.laws_steps_again.proofs.WholeSteps.{begun_by_events}

-- ---- the diagnostic of a step, by its end

-- the diagnostic after the end of a step that the plan has
pub told_at : (address : ResourceChange → StepKind → Outcome → Option (List ℕ)) (work : Work) (script : OutcomeMap) (event : Event) (kind : StepKind)
    → (own : IsInPlan work.plan event.change event.step kind)
    → told_after address work.plan script event
    ≡ note_of_step (address own.change kind (outcome_of script event.change event.step)) (outcome_of script event.change event.step)
told_at address work script event kind own =
    ap (λ (o : Option ResourceChange). option_and_then (λ change. option_and_then (λ (k : StepKind).
    note_of_step (address change k (outcome_of script event.change event.step)) (outcome_of script event.change event.step)) (slice_get change.steps event.step)) o) own.change_at
    ∙ ap (λ (o : Option StepKind). option_and_then (λ (k : StepKind).
    note_of_step (address own.change k (outcome_of script event.change event.step)) (outcome_of script event.change event.step)) o) own.kind_at

-- the diagnostic of the step that the event ends, as the form shows it
abbrev pub note_told : Look → Work → Event → Option Note
note_told look work event = option_map (note_shown look) (told_after look.address work.plan work.script event)

noted : (look : Look) (work : Work) (events : List Event)
    → filter_map (λ (note : Option Note). note) (map (note_told look work) events) ≡ map (note_shown look) (filter_map (told_after look.address work.plan work.script) events)
noted look work [] = refl
noted look work (event ∷ events) =
    ap (cons_option (note_told look work event)) (noted look work events)
    ∙ either (told_after look.address work.plan work.script event)
  where
    either : (o : Option Note) → cons_option (option_map (note_shown look) o) (map (note_shown look) (filter_map (told_after look.address work.plan work.script) events))
        ≡ map (note_shown look) (cons_option o (filter_map (told_after look.address work.plan work.script) events))
    either None = refl
    either (Some own) = refl

-- ---- what fits a step that has an end

pub fit_at_end : (is_default_form : Bool) (work : Work) (events : List Event) (id : (c k : ℕ) → Option (List ℕ)) (start : ℤ) (first : ℕ) (begun : Begun) (c k : ℕ) (kind : StepKind)
    → (one : IsStepKnown work events id start first begun c k kind)
    → fit_of is_default_form (step_of_plan work.plan.changes one.plan.change c k kind) one.known
    ≡ fit_of_end is_default_form (step_of_plan work.plan.changes one.plan.change c k kind) one.known (result_of (fails (outcome_of work.script c k)) (id c k))
fit_at_end is_default_form work events id start first begun c k kind one =
    let step = step_of_plan work.plan.changes one.plan.change c k kind in
    ap (λ (o : Option StepEnd). option_map_or (λ end. fit_of_end is_default_form step one.known end.result) o (Some (fit_without_end step))) one.are.end_is

module _ (work : Work) (n : ℕ) (events : List Event) (own : IsOwn work n events) (whole : AreWhole work.plan (hook_messages_of events))
    (id : (c k : ℕ) → Option (List ℕ)) (start : ℤ) (first : ℕ) (begun : Begun) (is : AreFollowed (telling_with work id) start first (hook_messages_of events) begun)
    (look : Look) (is_default_form : Bool) (form : IsInForm look is_default_form work) where
  -- the step of each hook message began
  pub event_begins : (event : Event) → Contains (hook_messages_of events) event → is_begun work (schedule work n) event.change event.step ≡ true
  event_begins event has =
      begun_by_events work n events own event.change event.step
      ∙ any_in (is_of_step event.change event.step) events event
      (filter_in (λ (e : Event). not (is_note e.what)) events event has).0 (is_own_step event.change event.step event refl refl)

  -- ---- the diagnostic fits

  pub own_note_fits : (c k : ℕ) (kind : StepKind) → slice_get (kinds_of work.plan c) k ≡ Some kind → (one : IsStepKnown work events id start first begun c k kind)
      → FitsStep (fit_of is_default_form (step_of_plan work.plan.changes one.plan.change c k kind) one.known) (result_of (fails (outcome_of work.script c k)) (id c k))
      (option_map (note_shown look) (note_of_step (look.address one.plan.change kind (outcome_of work.script c k)) (outcome_of work.script c k)))
  own_note_fits c k kind at one =
      let outcome = outcome_of work.script c k in
      let step = step_of_plan work.plan.changes one.plan.change c k kind in
      let shown = option_map (note_shown look) (note_of_step (look.address one.plan.change kind outcome) outcome) in
      subst (λ (fit : Option Fit). FitsStep fit (result_of (fails outcome) (id c k)) shown) (sym (fit_at_end is_default_form work events id start first begun c k kind one))
      (note_fits look (look.address one.plan.change kind outcome) (id c k) (fit_of_end is_default_form step one.known) outcome
      (λ failed. error_fits look is_default_form work form step one.known outcome (fails_by_provisioner work n events own id start first begun is c k kind one failed))
      (λ completes warns.
      let kept = warns_at_address look is_default_form work form c k kind at completes warns in
      ap (λ (t : Bool). if t then None else (let fit : Fit = record { severity = Some Warning; address = Some one.plan.change.address } in Some fit)) kept
      ∙ ap (λ (address : Option (List ℕ)). let fit : Fit = record { severity = Some Warning; address = address } in Some fit)
      (sym (addressed look is_default_form work form one.plan.change kind outcome kept))))

  has_note : (event : Event) → Contains (hook_messages_of events) event → HasNote is_default_form begun (place work.plan event) (note_told look work event)
  has_note event has =
      let c = event.change in
      let k = event.step in
      let mine = all_of_plan work.plan (hook_messages_of events) whole event has in
      let one = step_known work n events own id start first begun is c k mine.0 mine.1 (event_begins event has) in
      let outcome = outcome_of work.script c k in record {
        step = step_of_plan work.plan.changes one.plan.change c k mine.0;
        known = one.known;
        end = record { line = one.lines.is.ended.0; seconds = _; result = result_of (fails outcome) (id c k) };
        planned = ap (λ l. slice_get l (place work.plan event)) is.planned ∙ one.plan.planned_at;
        began = one.known_at;
        ended = one.are.end_is;
        fits_step = subst (FitsStep (fit_of is_default_form (step_of_plan work.plan.changes one.plan.change c k mine.0) one.known) (result_of (fails outcome) (id c k)))
            (sym (ap (option_map (note_shown look)) (told_at look.address work work.script event mine.0 one.plan))) (own_note_fits c k mine.0 mine.1 one);
      }

  have_notes : (list : List Event) → ((event : Event) → Contains list event → Contains (hook_messages_of events) event)
      → HaveNotes is_default_form begun (map (place work.plan) list) (map (note_told look work) list)
  have_notes [] all = tt
  have_notes (event ∷ list) all = (has_note event (all event (in_head event list)), have_notes list (λ other has. all other (in_tail event list other has)))

  -- ---- all diagnostics

  abbrev pub told : List (Option Note)
  told = map (note_told look work) (ends (hook_messages_of events))

  pub told_are : filter_map (λ (note : Option Note). note) told ≡ notes_shown look work events
  told_are =
      noted look work (ends (hook_messages_of events))
      ∙ ap (λ l. map (note_shown look) (filter_map (told_after look.address work.plan work.script) l)) (sym (ends_are (hook_messages_of events)))

  pub notes_are_told : (loose notes : List Note) → notes ≡ notes_shown look work events ++ loose → AreNotesTold is_default_form begun told loose notes
  notes_are_told loose notes are =
      let hooks = hook_messages_of events in record {
        distinct = subst AreDistinct (sym is.ends) (distinct_ends work.plan hooks whole);
        ended = subst₂ (λ (b e : List ℕ). All (λ at. Contains e at) b) (sym is.begins) (sym is.ends) (starts_end work.plan hooks whole);
        have = subst (λ (l : List ℕ). HaveNotes is_default_form begun l told) (sym (is.ends ∙ end_places work.plan hooks whole))
            (have_notes (ends hooks) (λ event has. (filter_in (λ (e : Event). is_end e.what) hooks event has).0));
        are = are ∙ ap (λ l. l ++ loose) (sym told_are);
      }
