-- What is recorded of each step of a run of our own.
use Rattle.std.proofs.Common.{◌≡◌, ◌≢◌, ◌∙◌, ◌+◌, ℕ, zero, suc, ℤ, Bool, true, false, List, [], ◌∷◌, ◌++◌, map, Option, Some, None, is_some, option_map, append-nil, refl, sym, ap, ap₂, arith, subst, subst₂}
use Rattle.std.specs.Prelude.{IfSome, if◌then◌else◌, slice_get}
use Rattle.std.specs.List.{Contains, cons_option, filter_map}
use Rattle.std.specs.Option.{option_and_then, option_flatten}
use Rattle.std.proofs.lemmas.List.Elements.{All-contains}
use Rattle.std.proofs.lemmas.Option.{get_or_from_slice_get, same_Some, slice_get_within}
use Rattle.apply_model.specs.declared.details.note.Note.{Note}
use Rattle.apply_model.specs.declared.details.note.Severity.TheVariants.{Warning}
use Rattle.apply_model.specs.declared.plan.step_kind.StepKind.{StepKind}
use Rattle.apply_model.specs.declared.script.outcome.Outcome.{Outcome}
use Rattle.apply_model.specs.Script.Outcome.{failure_of, fails, first_diag, took, warning_in}
use Rattle.apply_model.specs.Script.OutcomeMap.{OutcomeMap, outcome_of}
use Rattle.apply_events.specs.declared.event.Event.{Event}
use Rattle.apply_events.specs.declared.what.What.TheVariants.{Start}
use Rattle.apply_events.specs.Step.{Work, kinds_of, step_of}
use Rattle.apply_events.specs.StepEvents.{event}
use Rattle.apply_events.specs.Waits.Schedule.{schedule}
use Rattle.apply_events.proofs.Waits.Members.{filter_in, in_head, in_tail}
use Rattle.apply_text.specs.Order.{hook_messages_of}
use Rattle.stream_record_steps.specs.declared.begun_step.BegunStep.{BegunStep}
use Rattle.stream_record_steps.specs.declared.begun_step.EndResult.{EndResult}
use Rattle.stream_record_steps.specs.declared.begun_step.StepEnd.{StepEnd}
use Rattle.stream_record_steps.specs.Begun.{Begun, begun_at}
use Rattle.stream_record_steps.specs.Steps.{PlannedStep, is_first_step}
use Rattle.stream_record_outcomes.specs.declared.recorded_step.RecordedStep.{RecordedStep}
use Rattle.stream_record_outcomes.specs.Assignment.{Assignment, Fit, assignment_of, fit_of, fit_of_end, is_unaddressed, loose_notes}
use Rattle.stream_record_outcomes.specs.Assignment as assigned
use Rattle.stream_record_outcomes.specs.Outcome as recording
use Rattle.stream_record_outcomes.specs.Recording.{recorded_step}
use Rattle.stream_record_outcomes.specs.Took.{whole}
use Rattle.stream_record_script.specs.Runs.{recorded_at, run_at, run_of, steps_from, steps_of_plan}
use Rattle.stream_record_waits.specs.declared.step_of_plan.StepOfPlan.{StepOfPlan}
use Rattle.stream_record_waits.specs.Steps.{step_at}
use Rattle.laws_lanes.specs.Alike.{is_begun}
use Rattle.laws_begun.specs.Followed.{AreFollowed, AreWhole, events_of_step, is_end, is_of_step}
use Rattle.laws_notes.specs.Told.{AreNotesToldAgain, FitsStep, HasNote, severity_of_end}
use Rattle.laws_outcomes.specs.Told.{FitsEnd, IsToldAgain, result_of}
use Rattle.laws_outcomes.proofs.Endings.{fate_is}
use Rattle.laws_outcomes.proofs.Recorded.{told_again}
use Rattle.laws_texts.specs.Streams.{told_after}
use Rattle.laws_texts.specs.TimeLines.{notes_by_ends}
use Rattle.laws_steps_again.specs.Again.{HasRecorded, IsInForm, Look, notes_shown}
use Rattle.laws_reads.specs.Outcomes.{AreRecorded}
use Rattle.laws_steps_again.specs.Own.{IsOwn}
use Rattle.laws_waits.specs.Places.{place_of}
use Rattle.laws_steps_again.specs.Places.{step_of_plan}
use Rattle.laws_steps_again.specs.Steps.{IsRecorded}
use Rattle.laws_steps_again.proofs.EndPlaces.{all_of_plan, end_of_event, end_places, ends, ends_are, place}
use Rattle.laws_steps_again.proofs.Fitting.{end_fits, noted_again}
use Rattle.laws_steps_again.proofs.Forms.{addressed, error_fits, same_look}
use Rattle.laws_steps_again.proofs.NotesTold.{event_begins, fit_at_end, told, told_are, told_at}
use Rattle.laws_steps_again.proofs.Planned.{in_plan}
use Rattle.laws_steps_again.proofs.StepsKnown.{IsStepKnown, fails_by_provisioner, step_known, step_unknown, telling_with, was_told}

-- ---- the steps of the plan, with how they ran

step_from : (begun : Begun) (recorded : List (Option RecordedStep)) (first k : ℕ) (steps : List PlannedStep) (step : PlannedStep) → slice_get steps k ≡ Some step
    → slice_get (steps_from begun recorded first steps) k ≡ Some (record { is_first = is_first_step step; run = run_at begun recorded (first + k) step })
step_from begun recorded first k [] step at = absurd cc
step_from begun recorded first zero (one ∷ steps) step at =
    let same : one ≡ step = cc in
    let here : first ≡ first + 0 = omega arith in
    ap₂ (λ (s : PlannedStep) (n : ℕ). let own : StepOfPlan = record { is_first = is_first_step s; run = run_at begun recorded n s } in Some own) same here
step_from begun recorded first (suc k) (one ∷ steps) step at =
    let there : first + 1 + k ≡ first + suc k = omega arith in
    step_from begun recorded (first + 1) k steps step at
    ∙ ap (λ (n : ℕ). let own : StepOfPlan = record { is_first = is_first_step step; run = run_at begun recorded n step } in Some own) there

pub run_of_place : (begun : Begun) (recorded : List (Option RecordedStep)) (p : ℕ) (step : PlannedStep) → slice_get begun.planned p ≡ Some step
    → (step_at (steps_of_plan begun recorded) p).run ≡ run_at begun recorded p step
run_of_place begun recorded p step at =
    let zeroth : 0 + p ≡ p = omega arith in
    ap (λ (own : StepOfPlan). own.run)
    (get_or_from_slice_get (steps_of_plan begun recorded) p (record { is_first = is_first_step step; run = run_at begun recorded (0 + p) step }) (record { is_first = false; run = None })
    (step_from begun recorded 0 p begun.planned step at))
    ∙ ap (λ (n : ℕ). run_at begun recorded n step) zeroth

-- ---- lists

filter_same : {X Y Z : Type 0} (f : X → Option Z) (g : Y → Option Z) (h : X → Y) (xs : List X) → ((x : X) → Contains xs x → f x ≡ g (h x)) → filter_map f xs ≡ filter_map g (map h xs)
filter_same f g h [] same = refl
filter_same f g h (x ∷ xs) same = ap₂ cons_option (same x (in_head x xs)) (filter_same f g h xs (λ y has. same y (in_tail x xs y has)))

if_some : {X : Type 0} (P : X → Type 0) (o : Option X) (x : X) → o ≡ Some x → IfSome o P → P x
if_some P o x is holds = subst (λ t. IfSome t P) is holds

-- what fits a step that completed, where its diagnostics have an address or none
abbrev warning_fit : (unaddressed : Bool) → (address : List ℕ) → Option Fit
warning_fit unaddressed address = if unaddressed then None else Some (record { severity = Some Warning; address = Some address })

module _ (work : Work) (n : ℕ) (events : List Event) (own : IsOwn work n events) (wholes : AreWhole work.plan (hook_messages_of events))
    (id : (c k : ℕ) → Option (List ℕ)) (start : ℤ) (first : ℕ) (begun : Begun) (is : AreFollowed (telling_with work id) start first (hook_messages_of events) begun)
    (look : Look) (is_default_form : Bool) (form : IsInForm look is_default_form work)
    (notes : List Note) (recorded : List (Option RecordedStep)) (left : List Note) (recorded_are : AreRecorded work.plan.changes begun notes is_default_form recorded left)
    (again : AreNotesToldAgain is_default_form begun (told work n events own wholes id start first begun is look is_default_form form) notes (assignment_of is_default_form begun notes))
    (severity : (at : ℕ) (note : Note) (has : HasNote is_default_form begun at (Some note)) → note.severity ≡ severity_of_end has.end.result)
    (address : (at : ℕ) (note : Note) (has : HasNote is_default_form begun at (Some note))
    → option_map (λ fit. fit.address) (fit_of is_default_form has.step has.known) ≡ Some note.address) where
  abbrev own_note : (c k : ℕ) → Option Note
  own_note c k = assigned.note_of_step notes (assignment_of is_default_form begun notes) (place_of work.plan.changes c k)

  module _ (c k : ℕ) (kind : StepKind) (one : IsStepKnown work events id start first begun c k kind) where
    abbrev outcome : Outcome
    outcome = outcome_of work.script c k

    abbrev at_place : ℕ
    at_place = place_of work.plan.changes c k

    abbrev step : PlannedStep
    step = step_of_plan work.plan.changes one.plan.change c k kind

    planned_here : slice_get begun.planned (place_of work.plan.changes c k) ≡ Some (step_of_plan work.plan.changes one.plan.change c k kind)
    planned_here = ap (λ l. slice_get l (place_of work.plan.changes c k)) is.planned ∙ one.plan.planned_at

    -- ---- the diagnostic

    has_ended : Contains begun.ends (place_of work.plan.changes c k)
    has_ended =
        let start_event = event one.has.lane (step_of work c k kind) one.has.begin Start in
        let own_start : Contains (events_of_step c k (hook_messages_of events)) start_event = subst (λ l. Contains l start_event) (sym one.has.are) (in_head start_event _) in
        let there = filter_in (is_of_step c k) (hook_messages_of events) start_event own_start in
        subst (λ l. Contains l (place_of work.plan.changes c k)) (sym is.ends) (end_of_event work.plan (hook_messages_of events) wholes start_event there.0)

    has_note : HasNote is_default_form begun (place_of work.plan.changes c k) (own_note c k)
    has_note =
        All-contains (λ (at : ℕ). HasNote is_default_form begun at (assigned.note_of_step notes (assignment_of is_default_form begun notes) at))
        begun.ends (place_of work.plan.changes c k) again.fit has_ended

    -- the diagnostic is of this step
    module _ (note : Option Note) (has : HasNote is_default_form begun (place_of work.plan.changes c k) note) where
      known_same : has.known ≡ one.known
      known_same = same_Some has.known one.known (sym has.began ∙ one.known_at)

      result_same : has.end.result ≡ result_of (fails (outcome_of work.script c k)) (id c k)
      result_same =
          let end : StepEnd = record { line = one.lines.is.ended.0; seconds = took kind (outcome_of work.script c k); result = result_of (fails (outcome_of work.script c k)) (id c k) } in
          ap (λ (e : StepEnd). e.result) (same_Some has.end end (sym has.ended ∙ ap (λ (b : BegunStep). b.end) known_same ∙ one.are.end_is))

      fit_same : fit_of is_default_form has.step has.known
          ≡ fit_of_end is_default_form (step_of_plan work.plan.changes one.plan.change c k kind) one.known (result_of (fails (outcome_of work.script c k)) (id c k))
      fit_same =
          ap₂ (fit_of is_default_form) (same_Some has.step (step_of_plan work.plan.changes one.plan.change c k kind) (sym has.planned ∙ planned_here)) known_same
          ∙ fit_at_end is_default_form work events id start first begun c k kind one

      fits_here : FitsStep (fit_of_end is_default_form (step_of_plan work.plan.changes one.plan.change c k kind) one.known (result_of (fails (outcome_of work.script c k)) (id c k)))
          (result_of (fails (outcome_of work.script c k)) (id c k)) note
      fits_here = subst₂ (λ (f : Option Fit) (r : EndResult). FitsStep f r note) fit_same result_same has.fits_step

    own_severity : (note : Note) → HasNote is_default_form begun (place_of work.plan.changes c k) (Some note) → note.severity ≡ severity_of_end (result_of (fails (outcome_of work.script c k)) (id c k))
    own_severity note has = severity (place_of work.plan.changes c k) note has ∙ ap severity_of_end (result_same (Some note) has)

    -- the address of what fits
    fit_address : (failed : Bool) → fails (outcome_of work.script c k) ≡ failed → (note : Note)
        → FitsStep (fit_of_end is_default_form (step_of_plan work.plan.changes one.plan.change c k kind) one.known (result_of failed (id c k))) (result_of failed (id c k)) (Some note)
        → option_map (λ fit. fit.address) (fit_of_end is_default_form (step_of_plan work.plan.changes one.plan.change c k kind) one.known (result_of failed (id c k)))
        ≡ Some (look.address one.plan.change kind (outcome_of work.script c k))
    fit_address true failed note fits =
        ap (option_map (λ (fit : Fit). fit.address))
        (error_fits look is_default_form work form (step_of_plan work.plan.changes one.plan.change c k kind) one.known (outcome_of work.script c k)
        (fails_by_provisioner work n events own id start first begun is c k kind one failed))
    fit_address false completed note fits = either (is_unaddressed is_default_form kind) refl fits.1
      where
        either : (t : Bool) → is_unaddressed is_default_form kind ≡ t → (warning_fit t one.plan.change.address ≢ None)
            → option_map (λ (fit : Fit). fit.address) (warning_fit t one.plan.change.address) ≡ Some (look.address one.plan.change kind (outcome_of work.script c k))
        either true kept some = absurd (some refl)
        either false kept some = ap Some (sym (addressed look is_default_form work form one.plan.change kind (outcome_of work.script c k) kept))

    own_address : (note : Note) → HasNote is_default_form begun (place_of work.plan.changes c k) (Some note) → note.address ≡ look.address one.plan.change kind (outcome_of work.script c k)
    own_address note has =
        same_Some note.address (look.address one.plan.change kind (outcome_of work.script c k))
        (sym (address (place_of work.plan.changes c k) note has) ∙ ap (option_map (λ (fit : Fit). fit.address)) (fit_same (Some note) has)
        ∙ fit_address (fails (outcome_of work.script c k)) refl note (fits_here (Some note) has))

    pub note_fits_end : FitsEnd (fails (outcome_of work.script c k)) (own_note c k)
    note_fits_end =
        end_fits (fails (outcome_of work.script c k)) (id c k)
        (fit_of_end is_default_form (step_of_plan work.plan.changes one.plan.change c k kind) one.known (result_of (fails (outcome_of work.script c k)) (id c k)))
        (own_note c k) (fits_here (own_note c k) has_note)
        (λ note same. own_severity note (subst (HasNote is_default_form begun (place_of work.plan.changes c k)) same has_note))

    -- ---- what is recorded

    abbrev pub found : RecordedStep
    found = recorded_step None (step_of_plan work.plan.changes one.plan.change c k kind) (own_note c k) one.known

    pub found_again : IsToldAgain (step_of_plan work.plan.changes one.plan.change c k kind) (outcome_of work.script c k) (id c k) (own_note c k)
        (recording.outcome_of (step_of_plan work.plan.changes one.plan.change c k kind) (whole None one.known) one.known (own_note c k))
    found_again =
        told_again (step_of_plan work.plan.changes one.plan.change c k kind) (outcome_of work.script c k) (id c k) one.known (own_note c k)
        (was_told work n events own id start first begun is c k kind one (own_note c k) note_fits_end)

    pub found_here : recorded_at recorded (place_of work.plan.changes c k) ≡ Some (recorded_step None (step_of_plan work.plan.changes one.plan.change c k kind) (own_note c k) one.known)
    found_here =
        ap option_flatten (recorded_are.each (place_of work.plan.changes c k) (step_of_plan work.plan.changes one.plan.change c k kind) one.plan.planned_at)
        ∙ ap (option_map (recorded_step None (step_of_plan work.plan.changes one.plan.change c k kind) (own_note c k))) one.known_at

    pub is_recorded : IsRecorded work begun recorded c k kind (id c k)
    is_recorded = record {
      change = one.plan.change;
      change_at = one.plan.change_at;
      kind_at = one.plan.kind_at;
      known = one.known;
      known_at = one.known_at;
      end_line = one.lines.is.ended.0;
      end_is = one.are.end_is;
      found = recorded_step None (step_of_plan work.plan.changes one.plan.change c k kind) (own_note c k) one.known;
      found_at = found_here;
      no_waits = refl;
      fate_is = fate_is kind one.known (own_note c k)
          (record { line = one.lines.is.ended.0; seconds = took kind (outcome_of work.script c k); result = result_of (fails (outcome_of work.script c k)) (id c k) })
          (fails (outcome_of work.script c k)) (id c k) one.are.end_is refl;
      note = own_note c k;
      again = found_again;
      run_at = run_of_place begun recorded (place_of work.plan.changes c k) (step_of_plan work.plan.changes one.plan.change c k kind) planned_here
          ∙ ap (option_and_then (λ (f : RecordedStep). option_map (run_of (step_of_plan work.plan.changes one.plan.change c k kind) f) (begun_at begun.by_step (place_of work.plan.changes c k)))) found_here
          ∙ ap (option_map (run_of (step_of_plan work.plan.changes one.plan.change c k kind) (recorded_step None (step_of_plan work.plan.changes one.plan.change c k kind) (own_note c k) one.known))) one.known_at;
    }

  -- ---- steps that did not begin

  module _ (c k : ℕ) (kind : StepKind) (at : slice_get (kinds_of work.plan c) k ≡ Some kind) (never : is_begun work (schedule work n) c k ≡ false) where
    pub nothing_known : begun_at begun.by_step (place_of work.plan.changes c k) ≡ None
    nothing_known = step_unknown work n events own id start first begun is c k kind at never

    pub nothing_recorded : recorded_at recorded (place_of work.plan.changes c k) ≡ None
    nothing_recorded =
        let plan = in_plan work.plan c k kind at in
        ap option_flatten (recorded_are.each (place_of work.plan.changes c k) (step_of_plan work.plan.changes plan.change c k kind) plan.planned_at)
        ∙ ap (option_map (recorded_step None (step_of_plan work.plan.changes plan.change c k kind) (own_note c k))) nothing_known

    pub no_run : (step_at (steps_of_plan begun recorded) (place_of work.plan.changes c k)).run ≡ None
    no_run =
        let plan = in_plan work.plan c k kind at in
        let step = step_of_plan work.plan.changes plan.change c k kind in
        run_of_place begun recorded (place_of work.plan.changes c k) step (ap (λ l. slice_get l (place_of work.plan.changes c k)) is.planned ∙ plan.planned_at)
        ∙ ap (option_and_then (λ (f : RecordedStep). option_map (run_of step f) (begun_at begun.by_step (place_of work.plan.changes c k)))) nothing_recorded

  -- ---- the diagnostics told again

  module _ (other : OutcomeMap) (has : HasRecorded work n recorded other) where
    noted : (event : Event) → Contains (hook_messages_of events) event
        → told_after look.address work.plan other event ≡ assigned.note_of_step notes (assignment_of is_default_form begun notes) (place work.plan event)
    noted event among =
        let c = event.change in
        let k = event.step in
        let mine = all_of_plan work.plan (hook_messages_of events) wholes event among in
        let kind = mine.0 in
        let begins = event_begins work n events own wholes id start first begun is look is_default_form form event among in
        let one = step_known work n events own id start first begun is c k kind mine.1 begins in
        let outcome = outcome_of work.script c k in
        let new = outcome_of other c k in
        let step = step_of_plan work.plan.changes one.plan.change c k kind in
        let told_so = found_again c k kind one in
        let same : record new { after = [] } ≡ recording.outcome_of step (whole None one.known) one.known (own_note c k) =
        if_some (λ (f : RecordedStep). record new { after = [] } ≡ f.outcome) (recorded_at recorded (place_of work.plan.changes c k)) (found c k kind one) (found_here c k kind one)
        (has c k (slice_get_within (kinds_of work.plan c) k kind mine.1) begins) in
        told_at look.address work other event kind one.plan
        ∙ noted_again new (look.address one.plan.change kind new) (fails outcome) (own_note c k)
        (ap fails same ∙ told_so.alike.fails)
        (note_fits_end c k kind one)
        (λ failed. ap failure_of same ∙ told_so.failure failed)
        (λ completed. ap (λ (o : Outcome). warning_in o.result) same ∙ told_so.warning completed)
        (λ note is_so. own_address c k kind one note (subst (HasNote is_default_form begun (place_of work.plan.changes c k)) is_so (has_note c k kind one))
        ∙ same_look look is_default_form work form one.plan.change kind outcome new (sym (ap (λ (o : Outcome). is_some (first_diag o.provisioners)) same ∙ told_so.provisioner_fails)))

    pub notes_again : notes_by_ends look.address work.plan other events ++ left ≡ notes
    notes_again =
        let hooks = hook_messages_of events in
        let give = assigned.note_of_step notes (assignment_of is_default_form begun notes) in
        let by_ends : notes_by_ends look.address work.plan other events ≡ filter_map give begun.ends =
        ap (filter_map (told_after look.address work.plan other)) (ends_are hooks)
        ∙ filter_same (told_after look.address work.plan other) give (place work.plan) (ends hooks)
        (λ event among. noted event (filter_in (λ (e : Event). is_end e.what) hooks event among).0)
        ∙ ap (filter_map give) (sym (is.ends ∙ end_places work.plan hooks wholes)) in
        ap₂ (λ (xs ys : List Note). xs ++ ys) by_ends recorded_are.others ∙ again.same

  pub none_left : (loose : List Note) → notes ≡ notes_shown look work events ++ loose → loose ≡ [] → left ≡ []
  none_left loose are none =
      recorded_are.others
      ∙ again.none_loose (are ∙ ap (λ l. notes_shown look work events ++ l) none ∙ append-nil (notes_shown look work events)
      ∙ sym (told_are work n events own wholes id start first begun is look is_default_form form))
