-- Warnings about the steps that began.
use Rattle.std.specs.Prelude.{ℕ, List, [], ◌++◌, codes, Bool, true, false, Option, None, Some, slice_get}
use Rattle.std.specs.Fmt.{decimal}
use Rattle.std.specs.List.{flat_map}
use Rattle.std.specs.Option.{option_flatten, option_map_or}
use Rattle.stream_record_outcomes.specs.declared.recorded_step.RecordedStep.{RecordedStep}
use Rattle.stream_record_outcomes.specs.declared.step_warning.StepWarning.{StepWarning}
use Rattle.stream_record_outcomes.specs.declared.step_warning.StepWarning.TheVariants.{NoEnd, TooLong, OddProgress, Unexplained, OtherId, NotProvisionable, ProvisionersLeftOut, TooManyProvisioners, TooMuchOutput}
use Rattle.stream_record_steps.specs.Begun.{Begun, begun_at}
use Rattle.stream_record_steps.specs.Steps.{PlannedStep}
use Rattle.stream_record_steps.specs.declared.begun_step.BegunStep.{BegunStep}
use Rattle.term_text.specs.Shown.{shown_text}
use Rattle.stream_record_warnings.specs.Lines.{line_warning}
use Rattle.stream_record_warnings.specs.Names.{step_words}

-- What a warning states of its step.
abbrev pub reason_words : StepWarning → List ℕ
reason_words (NoEnd false) = codes " has no end, and is told as one that is done"
reason_words (NoEnd true) = codes " has no end, and is told as one that failed"
reason_words (TooLong seconds) = codes " took " ++ (decimal seconds ++ codes " seconds, and is told with 86400")
reason_words OddProgress = codes " has progress at other seconds than each tenth before its end"
reason_words Unexplained = codes " failed, and no diagnostic says why"
reason_words (OtherId key) = codes " tells " ++ (shown_text key ++ codes " in place of id")
reason_words NotProvisionable = codes " has provisioners, which such a step can't have"
reason_words ProvisionersLeftOut = codes " failed behind its provisioners, which are left out"
reason_words (TooManyProvisioners count) = codes " has " ++ (decimal count ++ codes " provisioners, and is told with 8")
reason_words (TooMuchOutput count) = codes " has a provisioner with " ++ (decimal count ++ codes " outputs, and is told with 100")

-- A warning about a step that began on this line.
abbrev pub step_warning : (line : ℕ) → PlannedStep → (words : List ℕ) → List ℕ
step_warning line step words = line_warning line (codes ": the " ++ (step_words step ++ words))

abbrev pub reason_warnings : (line : ℕ) → PlannedStep → List StepWarning → List ℕ
reason_warnings line step warnings = flat_map (λ warning. step_warning line step (reason_words warning)) warnings

-- A warning about another step that was not done when this one began, though this one waits for it.
abbrev pub early_warning : (line : ℕ) → PlannedStep → (other : PlannedStep) → List ℕ
early_warning line step other =
    step_warning line step (codes " began before the " ++ (step_words other ++ codes " was done, for which it waits in the graph"))

abbrev pub early_warnings : (line : ℕ) → PlannedStep → (planned : List PlannedStep) → (early : List ℕ) → List ℕ
early_warnings line step planned early =
    flat_map (λ place. option_map_or (early_warning line step) (slice_get planned place) []) early

-- The warnings about a step, of which this is recorded.
abbrev pub recorded_warnings : (line : ℕ) → PlannedStep → Option RecordedStep → List ℕ
recorded_warnings line step recorded = option_map_or (λ known. reason_warnings line step known.warnings) recorded []

-- The warnings about the step at a place, if it is in the plan and began.
abbrev pub warnings_of : (planned : List PlannedStep) → Option RecordedStep → (early : Option (List ℕ)) → Option PlannedStep → Option BegunStep → List ℕ
warnings_of planned recorded early None begun = []
warnings_of planned recorded early (Some step) None = []
warnings_of planned recorded early (Some step) (Some begun) =
    recorded_warnings begun.line step recorded ++ option_map_or (early_warnings begun.line step planned) early []

abbrev pub warnings_at : Begun → List (Option RecordedStep) → (early : List (List ℕ)) → (place : ℕ) → List ℕ
warnings_at begun recorded early place =
    warnings_of begun.planned (option_flatten (slice_get recorded place)) (slice_get early place) (slice_get begun.planned place) (begun_at begun.by_step place)

-- The warnings about all steps that began, in the order of their starts.
abbrev pub step_warnings : Begun → List (Option RecordedStep) → (early : List (List ℕ)) → List ℕ
step_warnings begun recorded early = flat_map (warnings_at begun recorded early) begun.begins
