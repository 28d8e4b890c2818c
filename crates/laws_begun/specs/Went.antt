-- What is known of a step that went as the script answers it.
use Rattle.std.specs.Prelude.{◌≡◌, ℕ, ℤ, pos, ◌+ℤ◌, List, map, Bool, true, false, Option, Some, None}
use Rattle.apply_model.specs.declared.plan.step_kind.StepKind.{StepKind}
use Rattle.apply_model.specs.declared.script.outcome.Outcome.{Outcome}
use Rattle.apply_model.specs.Script.Outcome.{fails, ran, seconds_before, took}
use Rattle.apply_model.specs.Script.OutcomeMap.{outcome_of}
use Rattle.apply_events.specs.declared.what.What.{What}
use Rattle.apply_events.specs.Provisions.{along}
use Rattle.apply_events.specs.StepEvents.{end_of}
use Rattle.stream_record_steps.specs.Steps.{PlannedStep}
use Rattle.stream_record_steps.specs.declared.begun_step.BegunStep.{BegunStep}
use Rattle.stream_record_steps.specs.declared.step_facts.StepFact.{StepFact}
use Rattle.laws_begun.specs.Followed.{fact_of, result_of}
use Rattle.laws_begun.specs.Telling.{Telling}

-- What a step with this outcome does between its start and its end, and after how many seconds.
abbrev pub between : StepKind → Outcome → List (ℕ × What)
between kind outcome = along (took kind outcome) 0 0 (seconds_before kind outcome) (ran outcome.provisioners)

-- What the line of this states, if the step begins in that second.
abbrev pub fact_after : Telling → (change step : ℕ) → (begin : ℤ) → ℕ × What → StepFact
fact_after telling c k begin one = record { second = begin +ℤ pos one.0; stated = fact_of telling c k one.1 }

-- The step is known by lines of all that it does with this outcome.
pub record WentWith (telling : Telling) (step : PlannedStep) (outcome : Outcome) (known : BegunStep) : Type 0 where
  pub kind : known.kind ≡ step.kind
  pub facts : known.facts ≡ map (fact_after telling step.change_number step.number known.second) (between step.kind outcome)
  pub line : ℕ
  pub end : known.end ≡ Some (record {
    line = line;
    seconds = took step.kind outcome;
    result = result_of telling step.change_number step.number (end_of (fails outcome) (took step.kind outcome));
  })

-- A step that begins is known as it went with the outcome of the script, and no other step is known.
abbrev pub IsKnownAsItWent : Telling → PlannedStep → (begins : Bool) → Option BegunStep → Type 0
IsKnownAsItWent telling step false known = known ≡ None
IsKnownAsItWent telling step true known =
    (begun : BegunStep) × (known ≡ Some begun) × WentWith telling step (outcome_of telling.script step.change_number step.number) begun
