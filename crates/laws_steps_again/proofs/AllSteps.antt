-- Of the steps of a run of our own, just those are recorded that began, and they go alike.
use Rattle.std.proofs.Common.{◌≡◌, ◌∙◌, ◌<◌, ℕ, zero, suc, ℤ, Bool, true, false, ◌&&◌, get_or, List, [], ◌∷◌, length, Option, Some, None, is_some, option_map, refl, sym, ap, ap₂, arith, subst, ⊎_elim}
use Rattle.std.specs.Prelude.{slice_get}
use Rattle.std.specs.Option.{option_map_or}
use Rattle.std.proofs.lemmas.Bool.{and_parts, cases_Bool}
use Rattle.std.proofs.lemmas.Option.{same_Some, slice_get-get_or}
use Rattle.apply_model.specs.declared.details.note.Note.{Note}
use Rattle.apply_model.specs.declared.plan.step_kind.StepKind.{StepKind}
use Rattle.apply_model.specs.declared.plan.step_kind.StepKind.TheVariants.{Create}
use Rattle.apply_model.specs.Script.Outcome.{fails}
use Rattle.apply_model.specs.Script.OutcomeMap.{outcome_of}
use Rattle.apply_events.specs.declared.event.Event.{Event}
use Rattle.apply_events.specs.Step.{Work, kinds_of}
use Rattle.apply_events.specs.Waits.Schedule.{schedule}
use Rattle.apply_events.proofs.Waits.Members.{filter_in}
use Rattle.apply_text.specs.Order.{hook_messages_of}
use Rattle.stream_record_steps.specs.declared.begun_step.StepEnd.{StepEnd}
use Rattle.stream_record_steps.specs.Begun.{Begun}
use Rattle.stream_record_outcomes.specs.declared.fate.Fate.{Fate}
use Rattle.stream_record_outcomes.specs.declared.recorded_step.RecordedStep.{RecordedStep}
use Rattle.stream_record_outcomes.specs.Assignment.{assignment_of, fit_of}
use Rattle.stream_record_script.specs.Runs.{recorded_at, run_fate_of, steps_of_plan}
use Rattle.stream_record_waits.specs.declared.step_of_plan.RunFate.TheVariants as run_fate
use Rattle.stream_record_waits.specs.declared.step_of_plan.StepRun.{StepRun}
use Rattle.stream_record_waits.specs.Steps.{has_begun, has_failed, is_failure, step_at}
use Rattle.laws_lanes.specs.Alike.{IsAnsweredAlike, is_begun}
use Rattle.laws_begun.specs.Followed.{AreFollowed, AreWhole, is_of_step}
use Rattle.laws_notes.specs.Told.{AreNotesToldAgain, HasNote, severity_of_end}
use Rattle.laws_steps_again.specs.Again.{IsInForm, Look}
use Rattle.laws_reads.specs.Outcomes.{AreRecorded}
use Rattle.laws_steps_again.specs.Own.{IsOwn}
use Rattle.laws_waits.specs.Places.{place_of}
use Rattle.laws_steps_again.specs.Steps.{AreStepsAgain, IsRecorded, fate_as}
use Rattle.laws_steps_again.proofs.EndPlaces.{step_parts}
use Rattle.laws_steps_again.proofs.NotesTold.{event_begins, told}
use Rattle.laws_steps_again.proofs.Recorded.{is_recorded, no_run, nothing_known, nothing_recorded}
use Rattle.laws_steps_again.proofs.StepsKnown.{step_known, telling_with}
use Rattle.laws_steps_again.proofs.WholeSteps.{has_events}

pub failure_as : (failed : Bool) → is_failure (run_fate_of (fate_as failed)) ≡ failed
failure_as true = refl
failure_as false = refl

module _ (work : Work) (n : ℕ) (events : List Event) (own : IsOwn work n events) (wholes : AreWhole work.plan (hook_messages_of events))
    (id : (c k : ℕ) → Option (List ℕ)) (start : ℤ) (first : ℕ) (begun : Begun) (is : AreFollowed (telling_with work id) start first (hook_messages_of events) begun)
    (look : Look) (is_default_form : Bool) (form : IsInForm look is_default_form work)
    (notes : List Note) (recorded : List (Option RecordedStep)) (left : List Note) (recorded_are : AreRecorded work.plan.changes begun notes is_default_form recorded left)
    (again : AreNotesToldAgain is_default_form begun (told work n events own wholes id start first begun is look is_default_form form) notes (assignment_of is_default_form begun notes))
    (severity : (at : ℕ) (note : Note) (has : HasNote is_default_form begun at (Some note)) → note.severity ≡ severity_of_end has.end.result)
    (address : (at : ℕ) (note : Note) (has : HasNote is_default_form begun at (Some note))
    → option_map (λ fit. fit.address) (fit_of is_default_form has.step has.known) ≡ Some note.address) where
  began : (c k : ℕ) (kind : StepKind) → slice_get (kinds_of work.plan c) k ≡ Some kind → is_begun work (schedule work n) c k ≡ true
      → IsRecorded work begun recorded c k kind (id c k)
  began c k kind at begins =
      is_recorded work n events own wholes id start first begun is look is_default_form form notes recorded left recorded_are again severity address c k kind
      (step_known work n events own id start first begun is c k kind at begins)

  none_known : (c k : ℕ) (kind : StepKind) → slice_get (kinds_of work.plan c) k ≡ Some kind → is_begun work (schedule work n) c k ≡ false
      → recorded_at recorded (place_of work.plan.changes c k) ≡ None
  none_known c k kind at never =
      nothing_recorded work n events own wholes id start first begun is look is_default_form form notes recorded left recorded_are again severity address c k kind at never

  none_ran : (c k : ℕ) (kind : StepKind) → slice_get (kinds_of work.plan c) k ≡ Some kind → is_begun work (schedule work n) c k ≡ false
      → (step_at (steps_of_plan begun recorded) (place_of work.plan.changes c k)).run ≡ None
  none_ran c k kind at never =
      no_run work n events own wholes id start first begun is look is_default_form form notes recorded left recorded_are again severity address c k kind at never

  kind_at : (c k : ℕ) → k < length (kinds_of work.plan c) → slice_get (kinds_of work.plan c) k ≡ Some (get_or (kinds_of work.plan c) k Create)
  kind_at c k less = slice_get-get_or (kinds_of work.plan c) k Create less

  each_begins : (c k : ℕ) (kind : StepKind) → slice_get (kinds_of work.plan c) k ≡ Some kind
      → has_begun (steps_of_plan begun recorded) (place_of work.plan.changes c k) ≡ is_begun work (schedule work n) c k
  each_begins c k kind at = ⊎_elim
      (λ (begins : is_begun work (schedule work n) c k ≡ true). ap is_some (began c k kind at begins).run_at ∙ sym begins)
      (λ (never : is_begun work (schedule work n) c k ≡ false). ap is_some (none_ran c k kind at never) ∙ sym never)
      (cases_Bool (is_begun work (schedule work n) c k))

  each_fails : (c k : ℕ) (kind : StepKind) → slice_get (kinds_of work.plan c) k ≡ Some kind
      → has_failed (step_at (steps_of_plan begun recorded) (place_of work.plan.changes c k)) ≡ (is_begun work (schedule work n) c k && fails (outcome_of work.script c k))
  each_fails c k kind at = ⊎_elim
      (λ (begins : is_begun work (schedule work n) c k ≡ true).
      let its = began c k kind at begins in
      ap (λ (o : Option StepRun). option_map_or (λ run. is_failure run.fate) o false) its.run_at
      ∙ ap (λ (fate : Fate). is_failure (run_fate_of fate)) its.fate_is ∙ failure_as (fails (outcome_of work.script c k))
      ∙ sym (ap (λ t. t && fails (outcome_of work.script c k)) begins))
      (λ (never : is_begun work (schedule work n) c k ≡ false).
      ap (λ (o : Option StepRun). option_map_or (λ run. is_failure run.fate) o false) (none_ran c k kind at never)
      ∙ sym (ap (λ t. t && fails (outcome_of work.script c k)) never))
      (cases_Bool (is_begun work (schedule work n) c k))

  each_alike : (c k : ℕ) (kind : StepKind) (found : RecordedStep) → slice_get (kinds_of work.plan c) k ≡ Some kind
      → recorded_at recorded (place_of work.plan.changes c k) ≡ Some found → IsAnsweredAlike kind (outcome_of work.script c k) found.outcome
  each_alike c k kind found at has = ⊎_elim
      (λ (begins : is_begun work (schedule work n) c k ≡ true).
      let its = began c k kind at begins in
      subst (λ (f : RecordedStep). IsAnsweredAlike kind (outcome_of work.script c k) f.outcome) (same_Some its.found found (sym its.found_at ∙ has)) its.again.alike)
      (λ (never : is_begun work (schedule work n) c k ≡ false).
      let both : Some found ≡ None = sym has ∙ none_known c k kind at never in absurd cc)
      (cases_Bool (is_begun work (schedule work n) c k))

  first_begins : (c : ℕ) (kind : StepKind) → slice_get (kinds_of work.plan c) 1 ≡ Some kind → is_begun work (schedule work n) c 1 ≡ true → is_begun work (schedule work n) c 0 ≡ true
  first_begins c kind at begins =
      let hooks = hook_messages_of events in
      let has = has_events work n events own c 1 kind at begins in
      let one = wholes.completed c (λ none. some_events (sym has.are ∙ none)) in
      let there = filter_in (is_of_step c 0) hooks one.0 one.1 in
      let same = step_parts c 0 one.0 there.1 in
      sym (ap₂ (λ d j. is_begun work (schedule work n) d j) same.0 same.1)
      ∙ event_begins work n events own wholes id start first begun is look is_default_form form one.0 there.0
    where
      some_events : {e : Event} {l : List Event} → e ∷ l ≡ [] → ⊥
      some_events none = cc

  each_in_order : (c k : ℕ) → suc k < length (kinds_of work.plan c)
      → has_begun (steps_of_plan begun recorded) (place_of work.plan.changes c (suc k)) ≡ true
      → has_begun (steps_of_plan begun recorded) (place_of work.plan.changes c k) ≡ true
  each_in_order c zero less begins =
      let second = kind_at c 1 less in
      let first_kind = kind_at c 0 (omega (arith, less)) in
      each_begins c 0 _ first_kind ∙ first_begins c _ second (sym (each_begins c 1 _ second) ∙ begins)
  each_in_order c (suc k) less begins = let few = own.apart.few c in absurd (omega (arith, less, few))

  pub steps_again : AreStepsAgain work n begun recorded id
  steps_again = record {
    steps = record {
      few = λ c. (let few = own.apart.few c in omega (arith, few));
      planned = is.planned;
      each = recorded_are.as_many ∙ sym (ap length is.planned);
      in_order = each_in_order;
    };
    begins = λ c k less. each_begins c k _ (kind_at c k less);
    began = began;
    no_other = λ c k less never. (
      nothing_known work n events own wholes id start first begun is look is_default_form form notes recorded left recorded_are again severity address c k _ (kind_at c k less) never,
      none_known c k _ (kind_at c k less) never,
    );
    fail = λ c k less failed. (and_parts (is_begun work (schedule work n) c k) (fails (outcome_of work.script c k)) (sym (each_fails c k _ (kind_at c k less)) ∙ failed)).1;
    alike = each_alike;
  }

-- A step that is recorded as one that ran, and does not fail, completed.
pub completed : (work : Work) (n : ℕ) (begun : Begun) (recorded : List (Option RecordedStep)) (id : (c k : ℕ) → Option (List ℕ)) → AreStepsAgain work n begun recorded id
    → (c k : ℕ) (run : StepRun) → k < length (kinds_of work.plan c) → (step_at (steps_of_plan begun recorded) (place_of work.plan.changes c k)).run ≡ Some run
    → fails (outcome_of work.script c k) ≡ false → (run.fate ≡ run_fate.Done) × ((end : ℕ) × (run.end ≡ Some end))
completed work n begun recorded id again c k run less ran goes_on =
    let begins : is_begun work (schedule work n) c k ≡ true = sym (again.begins c k less) ∙ ap is_some ran in
    let its = again.began c k (get_or (kinds_of work.plan c) k Create) (slice_get-get_or (kinds_of work.plan c) k Create less) begins in
    let same = same_Some _ run (sym its.run_at ∙ ran) in (
      sym (ap (λ (r : StepRun). r.fate) same) ∙ ap (λ (fate : Fate). run_fate_of fate) (its.fate_is ∙ ap fate_as goes_on),
      (its.end_line, sym (ap (λ (r : StepRun). r.end) same) ∙ ap (option_map (λ (e : StepEnd). e.line)) its.end_is),
    )
