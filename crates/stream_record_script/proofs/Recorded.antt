-- What is known once each part of the work is done.
use Rattle.std.proofs.Common.{◌≡◌, ◌∙◌, ◌+◌, ◌≤◌, ℕ, ◌++◌, [], ◌∷◌, List, Option, ap, length, refl, subst, sym}
use Rattle.std.specs.Prelude.{◌≢◌, Err, Result, suc}
use Rattle.std.specs.List.{filter_map, flat_map}
use Rattle.apply_model.specs.declared.details.note.Note.{Note}
use Rattle.apply_model.specs.declared.details.output as model
use Rattle.apply_model.specs.Plan.ResourceChange.{ResourceChange}
use Rattle.apply_model.specs.Script.OutcomeMap.{OutcomeMap}
use Rattle.stream_record.specs.ScriptText.{script_within}
use Rattle.stream_record.specs.declared.output as script_output
use Rattle.stream_record.specs.declared.script_fault.ScriptFault.{ScriptFault}
use Rattle.stream_record.specs.declared.script_fault.ScriptFault.TheVariants as script
use Rattle.stream_record_lines.specs.declared.outputs.output.Output.{Output}
use Rattle.stream_record_outcomes.specs.declared.circumstances.Circumstances.{Circumstances}
use Rattle.stream_record_outcomes.specs.declared.recorded_step.RecordedStep.{RecordedStep}
use Rattle.stream_record_outcomes.specs.Recording.{notes_of_no_step, recorded_steps}
use Rattle.stream_record_steps.specs.Begun.{Begun}
use Rattle.stream_record_steps.specs.Steps.{PlannedStep}
use Rattle.stream_record_stream.specs.Streams.{StreamRead}
use Rattle.stream_record_waits.specs.declared.choices.Choices.{Choices}
use Rattle.stream_record_waits.specs.declared.step_of_plan.StepOfPlan.{StepOfPlan}
use Rattle.stream_record_waits.specs.declared.step_state.StepState.{StepState}
use Rattle.stream_record_waits.specs.declared.waits_fault.WaitsFault.{WaitsFault}
use Rattle.stream_record_waits.specs.declared.waits_fault.WaitsFault.TheVariants as waits
use Rattle.stream_record_waits.specs.Graph.{count_of}
use Rattle.stream_record_waits.specs.Recorded.{AreRecordedWaits, AreSoundWaits, HasTooMany, max_waits}
use Rattle.stream_record_waits.specs.States.{states_of}
use Rattle.stream_record_warnings.specs.StepWarnings.{step_warnings}
use Rattle.stream_record_warnings.specs.StreamWarnings.{stream_warnings}
use Rattle.stream_record_script.specs.declared.recording.Wishes.{Wishes}
use Rattle.stream_record_script.specs.Causes.{of_script_fault, of_waits_fault}
use Rattle.stream_record_script.specs.Outputs.{known_outputs, output_warning, output_warnings, outputs_told, script_outputs, unknown_outputs, unless_told}
use Rattle.stream_record_script.specs.Recordings.{IsNotRecorded, IsRecorded, PlanRead, choices_of, choices_with, circumstances_of, notes_in, steps_in, text_with}
use Rattle.stream_record_script.specs.Runs.{steps_from, steps_of_plan}
use Rattle.stream_record_script.specs.Steps.{script_of}

-- ---- how many steps there are

as_many_from : (begun : Begun) (recorded : List (Option RecordedStep)) (place : ℕ) (steps : List PlannedStep)
    → length (steps_from begun recorded place steps) ≡ length steps
as_many_from begun recorded place [] = refl
as_many_from begun recorded place (step ∷ steps) = ap (λ (n : ℕ). suc n) (as_many_from begun recorded (place + 1) steps)

pub as_many : (begun : Begun) (recorded : List (Option RecordedStep)) → length (steps_of_plan begun recorded) ≡ length begun.planned
as_many begun recorded = as_many_from begun recorded 0 begun.planned

-- ---- the steps of the plan

-- What is known of the steps before their waits are.
pub record AreKnown (read : PlanRead) (wishes : Wishes) (stream : StreamRead)
    (recorded : List (Option RecordedStep)) (loose : List Note) (steps : List StepOfPlan) (choices : Choices) : Type 0 where
  pub recorded_is : recorded ≡ steps_in read stream
  pub loose_is : loose ≡ notes_in read stream
  pub steps_are : steps ≡ steps_of_plan stream.begun (steps_in read stream)
  pub choices_are : choices ≡ choices_of read wishes stream

module _ (read : PlanRead) (wishes : Wishes) (stream : StreamRead)
    (begun : Begun) (begun_is : begun ≡ stream.begun) (notes : List Note) (notes_are : notes ≡ stream.notes)
    (circumstances : Circumstances) (circumstances_are : circumstances ≡ circumstances_of read.note stream)
    (recorded : List (Option RecordedStep)) (recorded_is : recorded ≡ recorded_steps circumstances begun notes)
    (loose : List Note) (loose_is : loose ≡ notes_of_no_step circumstances begun notes)
    (steps : List StepOfPlan) (steps_are : steps ≡ steps_of_plan begun recorded)
    (choices : Choices) (choices_are : choices ≡ choices_with wishes loose stream) where
  own_recorded : recorded ≡ steps_in read stream
  own_recorded =
      recorded_is
      ∙ ap (λ (known : Circumstances). recorded_steps known begun notes) circumstances_are
      ∙ ap (λ (known : Begun). recorded_steps (circumstances_of read.note stream) known notes) begun_is
      ∙ ap (recorded_steps (circumstances_of read.note stream) stream.begun) notes_are

  own_loose : loose ≡ notes_in read stream
  own_loose =
      loose_is
      ∙ ap (λ (known : Circumstances). notes_of_no_step known begun notes) circumstances_are
      ∙ ap (λ (known : Begun). notes_of_no_step (circumstances_of read.note stream) known notes) begun_is
      ∙ ap (notes_of_no_step (circumstances_of read.note stream) stream.begun) notes_are

  pub known : AreKnown read wishes stream recorded loose steps choices
  known = record {
    recorded_is = own_recorded;
    loose_is = own_loose;
    steps_are = steps_are ∙ ap (λ (known : Begun). steps_of_plan known recorded) begun_is ∙ ap (steps_of_plan stream.begun) own_recorded;
    choices_are = choices_are ∙ ap (λ (known : List Note). choices_with wishes known stream) own_loose;
  }

-- ---- what goes into the script and the warnings

pub script_is : (changes : List ResourceChange) (recorded own : List (Option RecordedStep)) (states : List StepState) (after lists : List (List ℕ)) (script : OutcomeMap)
    → own ≡ recorded → lists ≡ after → script ≡ script_of changes own states lists → script ≡ script_of changes recorded states after
script_is changes recorded own states after lists script own_is lists_are is =
    is
    ∙ ap (λ (known : List (Option RecordedStep)). script_of changes known states lists) own_is
    ∙ ap (λ (known : List (List ℕ)). script_of changes recorded states known) lists_are

module _ (read : PlanRead) (stream : StreamRead) (given : List Output) (given_are : given ≡ stream.outputs) where
  pub outputs_are : (told : List model.Output.Output) (known : List Output) (outputs : List script_output.Output.Output)
      → told ≡ outputs_told read.outputs → known ≡ known_outputs read.outputs given → outputs ≡ filter_map (unless_told told) known
      → outputs ≡ script_outputs read.outputs stream.outputs
  outputs_are told known outputs told_are known_are are =
      are
      ∙ ap (λ (own : List model.Output.Output). filter_map (unless_told own) known) told_are
      ∙ ap (filter_map (unless_told (outputs_told read.outputs))) known_are
      ∙ ap (script_outputs read.outputs) given_are

  pub warnings_are : (lanes : ℕ) (recorded own : List (Option RecordedStep)) (early lists : List (List ℕ)) (unknown : List Output) (warnings : List ℕ)
      → own ≡ recorded → lists ≡ early → unknown ≡ unknown_outputs read.outputs given
      → warnings ≡ stream_warnings lanes stream ++ step_warnings stream.begun own lists ++ flat_map output_warning unknown
      → warnings ≡ stream_warnings lanes stream ++ step_warnings stream.begun recorded early ++ output_warnings read.outputs stream.outputs
  warnings_are lanes recorded own early lists unknown warnings own_is lists_are unknown_are are =
      let first = stream_warnings lanes stream in
      are
      ∙ ap (λ (known : List (Option RecordedStep)). first ++ step_warnings stream.begun known lists ++ flat_map output_warning unknown) own_is
      ∙ ap (λ (known : List (List ℕ)). first ++ step_warnings stream.begun recorded known ++ flat_map output_warning unknown) lists_are
      ∙ ap (λ (known : List Output). first ++ step_warnings stream.begun recorded early ++ flat_map output_warning known) unknown_are
      ∙ ap (λ (known : List Output). first ++ step_warnings stream.begun recorded early ++ output_warnings read.outputs known) given_are

-- ---- what was recorded

module _ (read : PlanRead) (graph : Option (List (List ℕ))) (wishes : Wishes) (stream : StreamRead)
    (recorded : List (Option RecordedStep)) (loose : List Note) (steps : List StepOfPlan) (choices : Choices)
    (are : AreKnown read wishes stream recorded loose steps choices) where
  too_many : HasTooMany steps graph choices → HasTooMany (steps_of_plan stream.begun (steps_in read stream)) graph (choices_of read wishes stream)
  too_many many =
      subst (λ (all : List StepOfPlan). HasTooMany all graph (choices_of read wishes stream)) are.steps_are
      (subst (λ (chosen : Choices). HasTooMany steps graph chosen) are.choices_are many)

  -- why there are no waits
  pub unwaited : (fault : WaitsFault) → (fault ≢ waits.Memory → HasTooMany steps graph choices) → IsNotRecorded read graph wishes stream (of_waits_fault fault)
  unwaited waits.TooMany why = too_many (why (λ is. cc))
  unwaited waits.Memory why = tt

  module _ (after early : List (List ℕ)) (found : AreRecordedWaits steps graph choices after early) (sound : AreSoundWaits steps after) (few : count_of after early ≤ max_waits)
      (states : List StepState) (states_are : states ≡ states_of steps after)
      (stated : OutcomeMap) (stated_is : stated ≡ script_of read.plan.changes recorded states after)
      (outputs : List script_output.Output.Output) (outputs_are : outputs ≡ script_outputs read.outputs stream.outputs)
      (warnings : List ℕ)
      (warnings_are : warnings ≡ stream_warnings wishes.lanes stream ++ step_warnings stream.begun recorded early ++ output_warnings read.outputs stream.outputs) where
    all_stated : stated ≡ script_of read.plan.changes (steps_in read stream) (states_of (steps_of_plan stream.begun (steps_in read stream)) after) after
    all_stated =
        stated_is
        ∙ ap (λ (own : List (Option RecordedStep)). script_of read.plan.changes own states after) are.recorded_is
        ∙ ap (λ (own : List StepState). script_of read.plan.changes (steps_in read stream) own after)
        (states_are ∙ ap (λ (all : List StepOfPlan). states_of all after) are.steps_are)

    text_is : script_within read.plan.changes stated outputs loose ≡ text_with read stream after
    text_is =
        let all = script_of read.plan.changes (steps_in read stream) (states_of (steps_of_plan stream.begun (steps_in read stream)) after) after in
        ap (λ (script : OutcomeMap). script_within read.plan.changes script outputs loose) all_stated
        ∙ ap (λ (own : List script_output.Output.Output). script_within read.plan.changes all own loose) outputs_are
        ∙ ap (script_within read.plan.changes all (script_outputs read.outputs stream.outputs)) are.loose_is

    pub made : (text : Result (List ℕ) ScriptFault) → script_within read.plan.changes stated outputs loose ≡ text → IsRecorded read graph wishes stream text warnings
    made text is = record {
      after = after;
      early = early;
      waits =
          subst (λ (all : List StepOfPlan). AreRecordedWaits all graph (choices_of read wishes stream) after early) are.steps_are
          (subst (λ (chosen : Choices). AreRecordedWaits steps graph chosen after early) are.choices_are found);
      sound = subst (λ (all : List StepOfPlan). AreSoundWaits all after) are.steps_are sound;
      few = few;
      text = sym text_is ∙ is;
      warned =
          warnings_are
          ∙ ap (λ (own : List (Option RecordedStep)).
          stream_warnings wishes.lanes stream ++ step_warnings stream.begun own early ++ output_warnings read.outputs stream.outputs) are.recorded_is;
    }

    -- why there is no text
    pub unmade : (fault : ScriptFault) → (fault ≢ script.Memory → script_within read.plan.changes stated outputs loose ≡ Err fault)
        → IsNotRecorded read graph wishes stream (of_script_fault fault)
    unmade script.TooLarge why = (warnings, made (Err script.TooLarge) (why (λ is. cc)))
    unmade script.Memory why = tt
