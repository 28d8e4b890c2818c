-- The outcomes of steps, and the diagnostics of no step, have sound texts.
use Rattle.std.proofs.Common.{ℕ, ℤ, ◌+◌, ◌-◌, ◌≤◌, List, [], ◌∷◌, IsUtf8, cond, length, take, Bool, true, false, Option, Some, None, arith}
use Rattle.std.specs.Prelude.{◌&&◌, IfSome, not, slice_get}
use Rattle.std.specs.List.{AllByRecursion}
use Rattle.std.specs.Option.{option_map_or}
use Rattle.apply_model.specs.declared.details.note.Note.{Note}
use Rattle.apply_model.specs.declared.plan.step_kind.StepKind.{StepKind}
use Rattle.apply_model.specs.declared.plan.step_kind.StepKind.TheVariants.{Delete}
use Rattle.apply_model.specs.declared.script.diag.Diag.{Diag}
use Rattle.apply_model.specs.declared.script.outcome.Outcome.{Outcome}
use Rattle.apply_model.specs.Plan.StepKind.{is_kind}
use Rattle.apply_model.specs.Script.Limits.{max_seconds}
use Rattle.stream_record_steps.specs.declared.begun_step.BegunStep.{BegunStep}
use Rattle.stream_record_steps.specs.declared.begun_step.EndResult.{EndResult}
use Rattle.stream_record_steps.specs.declared.begun_step.EndResult.TheVariants as end_result
use Rattle.stream_record_steps.specs.declared.begun_step.StepEnd.{StepEnd}
use Rattle.stream_record_steps.specs.Begun.{Begun, begun_at}
use Rattle.stream_record_steps.specs.Steps.{PlannedStep}
use Rattle.stream_record_outcomes.specs.Assignment.{Assignment, assignment_of, considered, is_left, is_of_errored_plan, is_of_partial_plan, left_from, note_number, note_of_step, without_partial}
use Rattle.stream_record_outcomes.specs.Outcome.{diag_of, ending_of, error_of, failure_by, fails_by_provisioner, fate_of, id_of, id_of_end, outcome_of, runs_of_create, runs_of_delete, stated_runs, states_provisioners, unless_empty}
use Rattle.stream_record_outcomes.specs.Provisioners.{ProvisionerRun, kept_runs, runs_in, unknown_error}
use Rattle.stream_record_outcomes.specs.Recording.{notes_of_no_step, recorded_from, recorded_step, recorded_steps}
use Rattle.stream_record_outcomes.specs.Times.{timed_facts}
use Rattle.stream_record_outcomes.specs.Took.{whole}
use Rattle.stream_record_outcomes.specs.declared.circumstances.Circumstances.{Circumstances}
use Rattle.stream_record_outcomes.specs.declared.fate.Fate.{Fate}
use Rattle.stream_record_outcomes.specs.declared.fate.Fate.TheVariants as fate
use Rattle.stream_record_outcomes.specs.declared.recorded_step.RecordedStep.{RecordedStep}
use Rattle.laws_recorded.specs.Texts.{HasSoundEnding, HasSoundTexts, IsSoundRecording, depth_recorded}
use Rattle.laws_record.specs.Writable.{IsFilled, IsWritableDiag}
use Rattle.laws_recorded.proofs.BegunTexts.{IsSoundBegun, IsSoundEnd, IsSoundResult, IsSoundStep, slot_at}
use Rattle.laws_recorded.proofs.EventTexts.{IsRecordedNote}
use Rattle.laws_check.proofs.Given.{any_given, gone_on, mapped, unwrapped}
use Rattle.laws_recorded.proofs.Lists.{filtered, item_at, taken}
use Rattle.laws_recorded.proofs.RunTexts.{IsSoundRun, at_once_sound, kept_sound, provisioners_sound, runs_sound, timed_sound, unknown_sound}

-- ---- how the provider ends

abbrev IsRecordedDiag : Diag → Type 0
IsRecordedDiag diag = IsWritableDiag depth_recorded diag

abbrev pub IsSoundNote : Option Note → Type 0
IsSoundNote note = IfSome note IsRecordedNote

diag_sound : (note : Option Note) → IsSoundNote note → IfSome (diag_of note) IsRecordedDiag
diag_sound note h = mapped IsRecordedNote IsRecordedDiag (λ note. note.diag) note (λ note sound. sound.diag) h

error_sound : (note : Option Note) → IsSoundNote note → IsRecordedDiag (error_of note)
error_sound note h = unwrapped IsRecordedDiag (diag_of note) unknown_error (diag_sound note h) unknown_sound

filled_sound : (text : List ℕ) → IsUtf8 text → IfSome (unless_empty text) IsFilled
filled_sound [] h = tt
filled_sound (byte ∷ bytes) h = record { utf8 = h; filled = λ e. cc }

result_sound : (result : EndResult) → IsSoundResult result → IfSome (id_of_end result) IsFilled
result_sound (end_result.Completed id_key None) h = tt
result_sound (end_result.Completed id_key (Some id)) h = filled_sound id h
result_sound end_result.Failed h = tt

id_sound : (kind : StepKind) (begun : BegunStep) → IsSoundStep begun → IfSome (id_of kind begun) IsFilled
id_sound kind begun h = unless_delete (is_kind Delete kind)
  where
    of_end : (o : Option StepEnd) → IfSome o IsSoundEnd → IfSome (option_map_or (λ end. id_of_end end.result) o None) IsFilled
    of_end None sound = tt
    of_end (Some end) sound = result_sound end.result sound

    unless_delete : (b : Bool) → IfSome (cond b None (option_map_or (λ end. id_of_end end.result) begun.end None)) IsFilled
    unless_delete true = tt
    unless_delete false = of_end begun.end h.end

ending_sound : (kind : StepKind) (begun : BegunStep) (own : Option Note) (by_provisioner : Bool) (f : Fate) → IsSoundStep begun → IsSoundNote own → HasSoundEnding (ending_of kind begun own by_provisioner f)
ending_sound kind begun own by_provisioner fate.Done h note = (id_sound kind begun h, diag_sound own note)
ending_sound kind begun own by_provisioner fate.Warned h note = error_sound own note
ending_sound kind begun own true fate.Failed h note = (tt, tt)
ending_sound kind begun own false fate.Failed h note = error_sound own note

failure_sound : (by_provisioner : Bool) (own : Option Note) → IsSoundNote own → IfSome (failure_by by_provisioner own) IsRecordedDiag
failure_sound true own h = error_sound own h
failure_sound false own h = tt

-- ---- the outcome

either_runs : (b : Bool) (x y : List ProvisionerRun) → AllByRecursion IsSoundRun x → AllByRecursion IsSoundRun y → AllByRecursion IsSoundRun (cond b x y)
either_runs true x y h k = h
either_runs false x y h k = k

stated_sound : (step : PlannedStep) (whole : ℕ) (begun : BegunStep) (f : Fate) → IsSoundStep begun → AllByRecursion IsSoundRun (stated_runs step whole begun f)
stated_sound step whole begun f h =
    let facts = timed_sound whole begun h in
    let fails = fails_by_provisioner step begun f in
    either_runs (states_provisioners step begun f) (cond (is_kind Delete step.kind) (runs_of_delete whole fails begun) (runs_of_create whole begun)) []
    (either_runs (is_kind Delete step.kind) (runs_of_delete whole fails begun) (runs_of_create whole begun)
    (at_once_sound (runs_in (not fails) whole (timed_facts whole begun)) (runs_sound (not fails) whole (timed_facts whole begun) facts))
    (runs_sound false whole (timed_facts whole begun) facts)) tt

pub outcome_sound : (step : PlannedStep) (whole : ℕ) (begun : BegunStep) (note : Option Note) → IsSoundStep begun → IsSoundNote note → HasSoundTexts (outcome_of step whole begun note)
outcome_sound step whole begun note h sound =
    let f = fate_of step.kind begun note in
    let by_provisioner = fails_by_provisioner step begun f in
    record {
      ending = ending_sound step.kind begun note by_provisioner f h sound;
      provisioners =
          provisioners_sound (failure_by by_provisioner note) (kept_runs by_provisioner (stated_runs step whole begun f)) (failure_sound by_provisioner note sound)
          (kept_sound by_provisioner (stated_runs step whole begun f) (stated_sound step whole begun f h));
    }

-- ---- diagnostics

considered_sound : (circumstances : Circumstances) (notes : List Note) → AllByRecursion IsRecordedNote notes → AllByRecursion IsRecordedNote (considered circumstances notes)
considered_sound circumstances notes h =
    filtered IsRecordedNote (λ note. not (circumstances.is_errored && is_of_errored_plan note)) (cond circumstances.is_partial (without_partial notes) notes)
    (either_notes circumstances.is_partial (without_partial notes)
    (either_notes (option_map_or is_of_partial_plan (slice_get notes (length notes - 1)) false) (take (length notes - 1) notes) (taken IsRecordedNote (length notes - 1) notes h)))
  where
    either_notes : (b : Bool) (fewer : List Note) → AllByRecursion IsRecordedNote fewer → AllByRecursion IsRecordedNote (cond b fewer notes)
    either_notes true fewer left = left
    either_notes false fewer left = h

note_sound : (notes : List Note) (assignment : Assignment) (place : ℕ) → AllByRecursion IsRecordedNote notes → IsSoundNote (note_of_step notes assignment place)
note_sound notes assignment place h =
    gone_on (λ _. Unit {0}) IsRecordedNote (λ number. slice_get notes number) (note_number assignment place) (λ number u. item_at IsRecordedNote notes number h) (any_given (note_number assignment place))

left_sound : (number : ℕ) (notes : List Note) (assignment : Assignment) → AllByRecursion IsRecordedNote notes → AllByRecursion IsRecordedNote (left_from number notes assignment)
left_sound number [] assignment h = tt
left_sound number (note ∷ notes) assignment h = one_or_none (is_left assignment number) (left_sound (number + 1) notes assignment h.1)
  where
    one_or_none : (b : Bool) → AllByRecursion IsRecordedNote (left_from (number + 1) notes assignment)
        → AllByRecursion IsRecordedNote (cond b (note ∷ left_from (number + 1) notes assignment) (left_from (number + 1) notes assignment))
    one_or_none true left = (h.0, left)
    one_or_none false left = left

-- ---- all steps

-- What holds of the outcome of each step with sound texts.
module _ (Q : Outcome → Type 0)
    (each : (step : PlannedStep) (limited : ℕ) (begun : BegunStep) (own : Option Note) → limited ≤ max_seconds → IsSoundStep begun → IsSoundNote own → Q (outcome_of step limited begun own)) where
  from_each : (cut_off_at : Option ℤ) (begun : Begun) (notes : List Note) (assignment : Assignment) (place : ℕ) (steps : List PlannedStep) → IsSoundBegun begun → AllByRecursion IsRecordedNote notes
      → AllByRecursion (λ (found : Option RecordedStep). IfSome found (λ step. Q step.outcome)) (recorded_from cut_off_at begun notes assignment place steps)
  from_each cut_off_at begun notes assignment place [] h known = tt
  from_each cut_off_at begun notes assignment place (step ∷ steps) h known = (
    mapped IsSoundStep (λ (found : RecordedStep). Q found.outcome) (recorded_step cut_off_at step (note_of_step notes assignment place)) (begun_at begun.by_step place)
        (λ slot sound. each step (whole cut_off_at slot) slot (note_of_step notes assignment place) (omega arith) sound (note_sound notes assignment place known)) (slot_at begun.by_step place h.by_step),
    from_each cut_off_at begun notes assignment (place + 1) steps h known,
  )

  pub each_step : (circumstances : Circumstances) (begun : Begun) (notes : List Note) → IsSoundBegun begun → AllByRecursion IsRecordedNote notes
      → AllByRecursion (λ (found : Option RecordedStep). IfSome found (λ step. Q step.outcome)) (recorded_steps circumstances begun notes)
  each_step circumstances begun notes h known =
      let left = considered circumstances notes in
      from_each circumstances.cut_off_at begun left (assignment_of circumstances.is_default_form begun left) 0 begun.planned h (considered_sound circumstances notes known)

pub steps_sound : (circumstances : Circumstances) (begun : Begun) (notes : List Note) → IsSoundBegun begun → AllByRecursion IsRecordedNote notes
    → AllByRecursion IsSoundRecording (recorded_steps circumstances begun notes)
steps_sound circumstances begun notes h known =
    each_step HasSoundTexts (λ step limited begun own fits sound known. outcome_sound step limited begun own sound known) circumstances begun notes h known

pub loose_sound : (circumstances : Circumstances) (begun : Begun) (notes : List Note) → AllByRecursion IsRecordedNote notes → AllByRecursion IsRecordedNote (notes_of_no_step circumstances begun notes)
loose_sound circumstances begun notes known = left_sound 0 (considered circumstances notes) (assignment_of circumstances.is_default_form begun (considered circumstances notes)) (considered_sound circumstances notes known)
