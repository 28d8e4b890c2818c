-- Streams in Terraform's form, by the bytes of what a run reads.
use Rattle.std.proofs.Common.{◌≡◌, ◌∙◌, ℕ, List, [], ◌∷◌, Option, Some, None, Ok, Bool, cond, false, true, refl, sym, ap, ap₂, subst, subst₂}
use Rattle.serde_json.specs.Data.{no_members}
use Rattle.apply_model.specs.declared.details.note.Note.{Note}
use Rattle.apply_model.specs.declared.details.output.Output.{Output}
use Rattle.apply_model.specs.Plan.SavedPlan.{SavedPlan}
use Rattle.apply_model.specs.Script.OutcomeMap.{OutcomeMap}
use Rattle.apply_events.specs.declared.event.Event.{Event}
use Rattle.apply_events.specs.Waits.TimeLine.{IsTimeLine}
use Rattle.apply_plan.specs.Plan.SavedPlan.{plan_of}
use Rattle.apply_plan.specs.Script.OutcomeMap.{script_of}
use Rattle.apply_plan_terraform.specs.Extras.{ExtrasOfScript, extras_of_bytes, with_notes}
use Rattle.apply_plan_terraform.specs.declared.plan_notes.PlanNote.{PlanNote}
use Rattle.apply_plan_terraform.specs.declared.plan_notes.PlanNote.TheVariants.{Partial, Unfinished}
use Rattle.apply_plan_terraform.specs.Notes.{note_of_plan, written_notes}
use Rattle.apply_plan_terraform.specs.ReadDetails.{DetailsOfPlan, details_of}
use Rattle.apply_run.specs.InForm.{WasAppliedInFormAndLanes}
use Rattle.apply_run.specs.Read.{StatedInputs, extras_of, is_unfinished}
use Rattle.apply_run.specs.Run.{SinkState}
use Rattle.apply_text_terraform.specs.declared.form.Form.TheVariants.{Terraform}
use Rattle.apply_run.specs.declared.form_report.FormReport.{FormReport}
use Rattle.apply_text.specs.declared.operation.Operation.{Operation}
use Rattle.apply_writer.specs.Stream.Form.{stream_in}
use Rattle.apply_writer.specs.Stream.Terraform.{StreamExtras, terraform_form}
use Rattle.stream_lines.specs.Cut.{cut_lines}
use Rattle.stream_record_cli.specs.Recorded.{IsScriptOfBytes}
use Rattle.stream_record_cli.specs.declared.command.recording.StreamChoice.{StreamChoice}
use Rattle.stream_record_script.specs.Outputs.{script_outputs}
use Rattle.stream_record_script.specs.Recordings.{PlanRead, notes_in, steps_in}
use Rattle.stream_record_stream.specs.Answers.{IsReadOf}
use Rattle.stream_record_stream.specs.Reading.{read_of}
use Rattle.laws_own_streams.specs.Runs.{without_hooks}
use Rattle.laws_record.specs.Extras.{outputs_by_name}
use Rattle.laws_record.specs.Writable.{written}
use Rattle.laws_waits.specs.Scripts.{recorded_script}
use Rattle.laws_again.specs.Streams.{inputs_of}
use Rattle.laws_again.specs.TerraformStreams.{IsRunInForm, IsStreamInLanesInForm}
use Rattle.laws_again.proofs.ComesAgain.{appended}

-- What a plan and a script state.
abbrev pub inputs : SavedPlan → DetailsOfPlan → OutcomeMap → ExtrasOfScript → StatedInputs
inputs saved details steps extras = record { plan = saved; script = steps; details = details; extras = extras }

-- A run of a finished plan that was read, whose stream these bytes are.
pub record HasStreamInForm (plan : List ℕ) (script : Option (List ℕ)) (saved : SavedPlan) (details : DetailsOfPlan) (lanes start : ℕ) (operation : Operation) (stream : List ℕ) : Type 0 where
  pub steps : OutcomeMap
  pub extras : ExtrasOfScript
  pub events : List Event
  pub run : IsRunInForm plan script (inputs saved details steps extras) lanes events
  pub stream_is : stream ≡ stream_in (terraform_form saved steps (extras_of (inputs saved details steps extras)) start operation) events

-- The same, told in such a way.
pub record HasToldStreamInForm (IsTold : StatedInputs → Type 0) (plan : List ℕ) (script : Option (List ℕ)) (saved : SavedPlan) (details : DetailsOfPlan) (lanes start : ℕ) (operation : Operation)
    (stream : List ℕ) : Type 0 where
  pub has : HasStreamInForm plan script saved details lanes start operation stream
  pub told : IsTold (inputs saved details has.steps has.extras)

-- The only diagnostic of a plan that Terraform did not finish is its error.
error_alone : (note : Option PlanNote) → is_unfinished note ≡ true → (script : List Note) → written_notes note script ≡ note_of_plan Unfinished ∷ []
error_alone None unfinished script = absurd cc
error_alone (Some Partial) unfinished script = absurd cc
error_alone (Some Unfinished) unfinished script = refl

abbrev pub without_changes : SavedPlan → SavedPlan
without_changes saved = record { version = saved.version; changes = [] }

abbrev pub with_error : DetailsOfPlan → List Output → StreamExtras
with_error details outputs = record { details = details.changes; notes = note_of_plan Unfinished ∷ []; outputs = outputs }

-- These bytes are the stream of a run of such a plan.
pub record HasErrorStream (saved : SavedPlan) (details : DetailsOfPlan) (lanes start : ℕ) (operation : Operation) (stream : List ℕ) : Type 0 where
  pub outputs : List Output
  pub events : List Event
  pub time_line : IsTimeLine (without_hooks (without_changes saved) []) lanes events
  pub stream_is : stream ≡ stream_in (terraform_form (without_changes saved) [] (with_error details outputs) start operation) events

module _ (plan : List ℕ) (script : Option (List ℕ)) (lanes start : ℕ) (operation : Operation) (stream : List ℕ)
    (own : IsStreamInLanesInForm plan script lanes start operation stream) where
  abbrev plan_if : (unfinished : Bool) → SavedPlan
  plan_if unfinished = cond unfinished (without_changes own.stated.plan) own.stated.plan

  abbrev script_if : (unfinished : Bool) → OutcomeMap
  script_if unfinished = cond unfinished [] own.stated.script

  -- A plan that Terraform finished is applied as it is.
  abbrev stream_as_stated : is_unfinished own.stated.details.note ≡ false → HasStreamInForm plan script own.stated.plan own.stated.details lanes start operation stream
  stream_as_stated finished = record {
    steps = own.stated.script;
    extras = own.stated.extras;
    events = own.events;
    run = record {
      read = own.read;
      sizes = own.sizes;
      time_line = subst (λ (b : Bool). IsTimeLine (without_hooks (plan_if b) (script_if b)) lanes own.events) finished own.time_line;
    };
    stream_is = subst (λ (b : Bool). stream ≡ stream_in (terraform_form (plan_if b) (script_if b) (extras_of own.stated) start operation) own.events)
        finished own.stream_is;
  }

  -- What the plan states is read of its bytes.
  module _ (saved : SavedPlan) (details : DetailsOfPlan) (plan_is : plan_of plan ≡ Ok saved) (details_are : details_of plan ≡ Some details) where
    same_plan : own.stated.plan ≡ saved
    same_plan = let both = sym own.read.plan_is ∙ plan_is in cc

    same_details : own.stated.details ≡ details
    same_details = let both = sym own.read.details_are ∙ details_are in cc

    as_stated : (unfinished : Bool) → is_unfinished details.note ≡ unfinished → is_unfinished own.stated.details.note ≡ unfinished
    as_stated unfinished is = ap (λ (d : DetailsOfPlan). is_unfinished d.note) same_details ∙ is

    has_stream : is_unfinished details.note ≡ false → HasStreamInForm plan script saved details lanes start operation stream
    has_stream finished =
        subst₂ (λ (s : SavedPlan) (d : DetailsOfPlan). HasStreamInForm plan script s d lanes start operation stream) same_plan same_details
        (stream_as_stated (as_stated false finished))

    has_told_stream : (IsTold : StatedInputs → Type 0) → IsTold own.stated → is_unfinished details.note ≡ false
        → HasToldStreamInForm IsTold plan script saved details lanes start operation stream
    has_told_stream IsTold told finished =
        subst₂ (λ (s : SavedPlan) (d : DetailsOfPlan). HasToldStreamInForm IsTold plan script s d lanes start operation stream) same_plan same_details
        (record { has = stream_as_stated (as_stated false finished); told = told })

    -- Of a plan that Terraform did not finish no change is applied.
    pub has_error_stream : is_unfinished details.note ≡ true → HasErrorStream saved details lanes start operation stream
    has_error_stream unfinished =
        let is = as_stated true unfinished in
        subst₂ (λ (s : SavedPlan) (d : DetailsOfPlan). HasErrorStream s d lanes start operation stream) same_plan same_details
        (record {
          outputs = (extras_of own.stated).outputs;
          events = own.events;
          time_line = subst (λ (b : Bool). IsTimeLine (without_hooks (plan_if b) (script_if b)) lanes own.events) is own.time_line;
          stream_is = own.stream_is
              ∙ ap₂ (λ (b : Bool) (notes : List Note). stream_in (terraform_form (plan_if b) (script_if b)
              (record { details = own.stated.details.changes; notes = notes; outputs = (extras_of own.stated).outputs }) start operation) own.events)
              is (error_alone own.stated.details.note is own.stated.extras.notes);
        })

-- What a script states is read of its bytes.
module _ (plan text : List ℕ) (saved : SavedPlan) (details : DetailsOfPlan) (lanes start : ℕ) (operation : Operation) (stream : List ℕ)
    (has : HasStreamInForm plan (Some text) saved details lanes start operation stream) where
  steps_are : (steps : OutcomeMap) → script_of saved text ≡ Ok steps → has.steps ≡ steps
  steps_are steps read = let both = sym has.run.read.script_is ∙ read in cc

  extras_are : (extras : ExtrasOfScript) → extras_of_bytes details.outputs text ≡ Ok extras → has.extras ≡ extras
  extras_are extras read = let both = sym has.run.read.extras_are ∙ read in cc

-- ---- recorded and told again

-- What `record` read of the plan.
abbrev pub plan_read : (plan : List ℕ) (graph : Option (List ℕ)) (choice : StreamChoice) (stream text warnings : List ℕ)
    → IsScriptOfBytes plan graph choice stream text warnings → PlanRead
plan_read plan graph choice stream text warnings is = record { plan = is.saved; note = is.is.note; outputs = is.is.outputs }

-- The outputs and the diagnostics of no step that `record` found.
abbrev found : (plan : List ℕ) (graph : Option (List ℕ)) (choice : StreamChoice) (stream text warnings : List ℕ)
    → IsScriptOfBytes plan graph choice stream text warnings → ExtrasOfScript
found plan graph choice stream text warnings is =
    with_notes (outputs_by_name (script_outputs is.is.outputs is.is.read.outputs) no_members)
    (notes_in (plan_read plan graph choice stream text warnings is) is.is.read)

-- The stream of a run that was recorded, and one of the script that `record` wrote of it.
pub record IsToldAgain (IsTold : StatedInputs → Type 0) (plan : List ℕ) (script graph : Option (List ℕ)) (choice : StreamChoice) (lanes start : ℕ) (operation : Operation)
    (stream text warnings again : List ℕ) (is : IsScriptOfBytes plan graph choice stream text warnings) : Type 0 where
  pub first : HasToldStreamInForm IsTold plan script is.saved is.is.parts.details.details lanes start operation stream
  pub second : HasStreamInForm plan (Some text) is.saved is.is.parts.details.details lanes start operation again
  pub reads : read_of is.saved false 0 (cut_lines (stream_in (terraform_form is.saved first.has.steps
      (extras_of (inputs is.saved is.is.parts.details.details first.has.steps first.has.extras)) start operation) first.has.events)) ≡ Ok is.is.read
  pub steps_are : second.steps ≡ written is.saved.changes (recorded_script is.saved is.is.read.begun
      (steps_in (plan_read plan graph choice stream text warnings is) is.is.read) is.is.is.after)
  pub extras_are : extras_of (inputs is.saved is.is.parts.details.details second.steps second.extras)
      ≡ extras_of (inputs is.saved is.is.parts.details.details first.has.steps (found plan graph choice stream text warnings is))

pub told_again : (IsTold : StatedInputs → Type 0) (plan : List ℕ) (script graph : Option (List ℕ)) (choice : StreamChoice) (lanes start : ℕ) (operation : Operation)
    (stream text warnings again : List ℕ) (is : IsScriptOfBytes plan graph choice stream text warnings)
    (own : IsStreamInLanesInForm plan script lanes start operation stream) → IsTold own.stated → is_unfinished is.is.parts.details.details.note ≡ false
    → IsReadOf is.saved false 0 stream (Ok is.is.read)
    → IsStreamInLanesInForm plan (Some text) lanes start operation again
    → script_of is.saved text ≡ Ok (written is.saved.changes (recorded_script is.saved is.is.read.begun
    (steps_in (plan_read plan graph choice stream text warnings is) is.is.read) is.is.is.after))
    → extras_of_bytes is.is.parts.details.details.outputs text ≡ Ok (found plan graph choice stream text warnings is)
    → IsToldAgain IsTold plan script graph choice lanes start operation stream text warnings again is
told_again IsTold plan script graph choice lanes start operation stream text warnings again is own told finished as_read anew steps_read extras_read =
    let details = is.is.parts.details.details in
    let first = has_told_stream plan script lanes start operation stream own is.saved details is.read is.is.parts.details.read IsTold told finished in
    let second = has_stream plan (Some text) lanes start operation again anew is.saved details is.read is.is.parts.details.read finished in record {
      first = first;
      second = second;
      reads = subst (λ (bytes : List ℕ). read_of is.saved false 0 (cut_lines bytes) ≡ Ok is.is.read) first.has.stream_is as_read;
      steps_are = steps_are plan text is.saved details lanes start operation again second _ steps_read;
      extras_are = ap (λ (e : ExtrasOfScript). extras_of (inputs is.saved details first.has.steps e))
          (extras_are plan text is.saved details lanes start operation again second _ extras_read);
    }

-- ---- what was written

-- What a run in lanes wrote is its stream.
abbrev pub stream_written : (plan : List ℕ) (script : Option (List ℕ)) (lanes start : ℕ) (operation : Operation) (report : FormReport) (before after : SinkState)
    (stream : List ℕ) → WasAppliedInFormAndLanes Terraform (inputs_of plan script) lanes start operation report before after
    → before.bytes ≡ Some [] → after.bytes ≡ Some stream → IsStreamInLanesInForm plan script lanes start operation stream
stream_written plan script lanes start operation report before after stream reported none all = let applied = reported.applied in record {
  stated = applied.read;
  read = applied.is_read;
  sizes = applied.sizes;
  events = applied.streamed.events;
  time_line = applied.streamed.run;
  stream_is = appended before.bytes after.bytes _ stream none all applied.streamed.whole.delivered.appended;
}
