-- A step as its lines told it, and the outcome that goes as it went.
use Rattle.std.specs.Prelude.{◌≡◌, ℕ, ℤ, pos, ◌+ℤ◌, List, codes, map, Bool, true, false, ⊤, if◌then◌else◌, is_some, Option, Some, None, option_map}
use Rattle.apply_model.specs.declared.details.note.Note.{Note}
use Rattle.apply_model.specs.declared.details.note.Severity.TheVariants as severity
use Rattle.apply_model.specs.declared.plan.step_kind.StepKind.{StepKind}
use Rattle.apply_model.specs.declared.plan.step_kind.StepKind.TheVariants.{Delete}
use Rattle.apply_model.specs.declared.script.outcome.Outcome.{Outcome}
use Rattle.apply_model.specs.Plan.StepKind.{is_kind}
use Rattle.apply_model.specs.Script.Outcome.{end_id, fails, failure_of, first_diag, is_warned, provider_id, ran, seconds_before, took, warning_in}
use Rattle.apply_events.specs.declared.what.What.{What}
use Rattle.apply_events.specs.declared.what.What.TheVariants.{Progress, ProvisionStart, ProvisionOutput, ProvisionComplete, ProvisionErrored}
use Rattle.apply_events.specs.Provisions.{along}
use Rattle.apply_text.specs.Message.{name_of, output_of}
use Rattle.apply_text_terraform.specs.Message.{end_id as planned_end_id}
use Rattle.stream_record_steps.specs.Steps.{PlannedStep}
use Rattle.stream_record_steps.specs.declared.begun_step.BegunStep.{BegunStep}
use Rattle.stream_record_steps.specs.declared.begun_step.EndResult.{EndResult}
use Rattle.stream_record_steps.specs.declared.begun_step.EndResult.TheVariants as end_result
use Rattle.stream_record_steps.specs.declared.step_facts.StepFact.{StepFact}
use Rattle.stream_record_steps.specs.declared.step_facts.Stated.{Stated}
use Rattle.stream_record_steps.specs.declared.step_facts.Stated.TheVariants as stated
use Rattle.stream_record_outcomes.specs.Outcome.{IsAllowed, unless_empty}
use Rattle.laws_lanes.specs.Alike.{IsAnsweredAlike}

-- ---- the lines

-- What the line of an event between the start and the end of a step states.
abbrev pub fact_of : Outcome → What → Stated
fact_of outcome (Progress seconds) = stated.Progress seconds
fact_of outcome (ProvisionStart i) = stated.ProvisionerBegan (name_of outcome i)
fact_of outcome (ProvisionOutput i line) = stated.Wrote (output_of outcome i line)
fact_of outcome (ProvisionComplete i) = stated.ProvisionerEnded
fact_of outcome (ProvisionErrored i) = stated.ProvisionerFailed
fact_of outcome _ = stated.ProvisionerEnded

-- What a step does between its start and its end, and after how many seconds.
abbrev pub between : StepKind → Outcome → List (ℕ × What)
between kind outcome = along (took kind outcome) 0 0 (seconds_before kind outcome) (ran outcome.provisioners)

abbrev pub step_fact : (begin : ℤ) → Outcome → ℕ × What → StepFact
step_fact begin outcome one = record { second = begin +ℤ pos one.0; stated = fact_of outcome one.1 }

-- How the end of a step is told: with this id, if it completed.
abbrev pub result_of : (failed : Bool) → (id : Option (List ℕ)) → EndResult
result_of true id = end_result.Failed
result_of false id = end_result.Completed (option_map (λ id. codes "id") id) id

-- A step that fails has an error; of one that completes a diagnostic is a warning.
abbrev pub FitsEnd : (failed : Bool) → Option Note → Type 0
FitsEnd true None = ⊥
FitsEnd true (Some note) = note.severity ≡ severity.Error
FitsEnd false None = ⊤
FitsEnd false (Some note) = note.severity ≡ severity.Warning

-- The step of the plan has this outcome, which a script may state, and these are its lines. The end
-- reports this id.
pub record WasTold (step : PlannedStep) (outcome : Outcome) (id : Option (List ℕ)) (begun : BegunStep) (note : Option Note) : Type 0 where
  pub allowed : IsAllowed step outcome
  pub ends : is_warned outcome.result ≡ false
  pub kind : begun.kind ≡ step.kind
  pub facts : begun.facts ≡ map (step_fact begun.second outcome) (between step.kind outcome)
  pub line : ℕ
  pub end : begun.end ≡ Some (record { line = line; seconds = took step.kind outcome; result = result_of (fails outcome) id })
  pub fits : FitsEnd (fails outcome) note

-- ---- the outcome

-- The id that a script states of this one: an empty one is none.
abbrev pub stated_id : Option (List ℕ) → Option (List ℕ)
stated_id None = None
stated_id (Some id) = unless_empty id

-- The id that the recorded outcome gives: the one that was told, unless it is empty. A delete gives
-- none, and neither does a step that failed.
abbrev pub id_again : StepKind → (failed : Bool) → Option (List ℕ) → Option (List ℕ)
id_again kind failed id = if is_kind Delete kind then None else (if failed then None else stated_id id)

-- The recorded outcome goes alike. It has the diagnostic of the step: the error of a step that
-- fails, and the warning of any other step. It gives the id that was told, and its end reports that
-- id again. In Terraform's form, the plan may give an id too.
pub record IsToldAgain (step : PlannedStep) (outcome : Outcome) (id : Option (List ℕ)) (note : Option Note) (recorded : Outcome) : Type 0 where
  pub alike : IsAnsweredAlike step.kind outcome recorded
  pub provisioner_fails : is_some (first_diag recorded.provisioners) ≡ is_some (first_diag outcome.provisioners)
  pub id_is : provider_id recorded.result ≡ id_again step.kind (fails outcome) id
  pub reported : fails outcome ≡ false → id ≡ end_id step.kind outcome.result → end_id step.kind recorded.result ≡ id
  pub reported_planned : (planned : Option (List ℕ)) → fails outcome ≡ false → id ≡ planned_end_id step.kind outcome.result planned
      → planned_end_id step.kind recorded.result planned ≡ id
  pub failure : fails outcome ≡ true → failure_of recorded ≡ option_map (λ note. note.diag) note
  pub warning : fails outcome ≡ false → warning_in recorded.result ≡ option_map (λ note. note.diag) note
