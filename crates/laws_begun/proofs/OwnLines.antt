-- What the lines of one step make of what is known of it.
use Rattle.std.proofs.Common.{◌≡◌, ◌∙◌, ◌+ℤ◌, ℕ, ℤ, pos, List, [], ◌∷◌, Option, None, Some, refl}
use Rattle.std.specs.Prelude.{option_map}
use Rattle.apply_model.specs.declared.plan.step_kind.StepKind.{StepKind}
use Rattle.apply_events.specs.declared.event.Event.{Event}
use Rattle.apply_events.specs.declared.what.What.{What}
use Rattle.apply_events.specs.declared.what.What.TheVariants.{Start, Progress, Complete, Errored, ErrorNote, WarnNote, Halted, ProvisionStart, ProvisionOutput, ProvisionComplete, ProvisionErrored}
use Rattle.stream_record_steps.specs.declared.begun_step.BegunStep.{BegunStep}
use Rattle.stream_record_steps.specs.declared.begun_step.EndResult.{EndResult}
use Rattle.stream_record_steps.specs.declared.begun_step.EndResult.TheVariants as end_result
use Rattle.stream_record_steps.specs.declared.begun_step.StepEnd.{StepEnd}
use Rattle.stream_record_steps.specs.declared.step_facts.StepFact.{StepFact}
use Rattle.stream_record_steps.specs.Starts.{first_known}
use Rattle.stream_record_steps.specs.UnderWay.{ended, plus_fact}
use Rattle.laws_begun.specs.Followed.{fact_of, result_of, seconds_in}
use Rattle.laws_begun.specs.Telling.{Telling}
use Rattle.laws_begun.proofs.Phases.{Phase, HasCompleted, HasFailed, once_begun, phase_after, phase_ended, phase_of, phase_of_end}

-- ---- what is known but for the line before the start

abbrev pub bare_step : BegunStep → BegunStep
bare_step step = record step { previous = None }

abbrev pub bare : Option BegunStep → Option BegunStep
bare known = option_map bare_step known

pub bare_fact : (fact : StepFact) (known : Option BegunStep) → bare (option_map (plus_fact fact) known) ≡ option_map (plus_fact fact) (bare known)
bare_fact fact None = refl
bare_fact fact (Some step) = refl

pub bare_end : (end : StepEnd) (known : Option BegunStep) → bare (option_map (ended end) known) ≡ option_map (ended end) (bare known)
bare_end end None = refl
bare_end end (Some step) = refl

pub bare_phase : (known : Option BegunStep) → phase_of (bare known) ≡ phase_of known
bare_phase None = refl
bare_phase (Some step) = refl

-- ---- one line

module _ (telling : Telling) (start : ℤ) where
  abbrev pub own_fact : (c k at : ℕ) → What → StepFact
  own_fact c k at what = record { second = start +ℤ pos at; stated = fact_of telling c k what }

  abbrev pub own_end : (c k line : ℕ) → What → StepEnd
  own_end c k line what = record { line = line; seconds = seconds_in what; result = result_of telling c k what }

  -- what is known of a step after a line of its own
  abbrev pub own_after : StepKind → (c k line at : ℕ) → What → Option BegunStep → Option BegunStep
  own_after kind c k line at Start known = Some (first_known line (start +ℤ pos at) kind None)
  own_after kind c k line at (Progress seconds) known = option_map (plus_fact (own_fact c k at (Progress seconds))) known
  own_after kind c k line at (Complete seconds) known = option_map (ended (own_end c k line (Complete seconds))) known
  own_after kind c k line at (Errored seconds) known = option_map (ended (own_end c k line (Errored seconds))) known
  own_after kind c k line at ErrorNote known = known
  own_after kind c k line at WarnNote known = known
  own_after kind c k line at (Halted phase hook) known = known
  own_after kind c k line at (ProvisionStart i) known = option_map (plus_fact (own_fact c k at (ProvisionStart i))) known
  own_after kind c k line at (ProvisionOutput i output) known = option_map (plus_fact (own_fact c k at (ProvisionOutput i output))) known
  own_after kind c k line at (ProvisionComplete i) known = option_map (plus_fact (own_fact c k at (ProvisionComplete i))) known
  own_after kind c k line at (ProvisionErrored i) known = option_map (plus_fact (own_fact c k at (ProvisionErrored i))) known

  fact_phase : (fact : StepFact) (known : Option BegunStep) → phase_of (option_map (plus_fact fact) known) ≡ phase_of known
  fact_phase fact None = refl
  fact_phase fact (Some step) = refl

  end_phase : (end : StepEnd) (phase : Phase) (known : Option BegunStep) → ((step : BegunStep) → phase_of (Some (ended end step)) ≡ phase)
      → phase_of (option_map (ended end) known) ≡ once_begun (phase_of known) phase
  end_phase end phase None is = refl
  end_phase end phase (Some step) is = is step ∙ begun step.end
    where
      results : (result : EndResult) → phase ≡ once_begun (phase_ended result) phase
      results (end_result.Completed id_key id) = refl
      results end_result.Failed = refl

      begun : (o : Option StepEnd) → phase ≡ once_begun (phase_of_end o) phase
      begun None = refl
      begun (Some end) = results end.result

  pub own_phase : (kind : StepKind) (c k line at : ℕ) (what : What) (known : Option BegunStep) → phase_of (own_after kind c k line at what known) ≡ phase_after (phase_of known) what
  own_phase kind c k line at Start known = refl
  own_phase kind c k line at (Progress seconds) known = fact_phase _ known
  own_phase kind c k line at (Complete seconds) known = end_phase _ HasCompleted known (λ step. refl)
  own_phase kind c k line at (Errored seconds) known = end_phase _ HasFailed known (λ step. refl)
  own_phase kind c k line at ErrorNote known = refl
  own_phase kind c k line at WarnNote known = refl
  own_phase kind c k line at (Halted phase hook) known = refl
  own_phase kind c k line at (ProvisionStart i) known = fact_phase _ known
  own_phase kind c k line at (ProvisionOutput i output) known = fact_phase _ known
  own_phase kind c k line at (ProvisionComplete i) known = fact_phase _ known
  own_phase kind c k line at (ProvisionErrored i) known = fact_phase _ known

  -- ---- all lines

  abbrev pub line_after : StepKind → ℕ × Event → Option BegunStep → Option BegunStep
  line_after kind line known = own_after kind line.1.change line.1.step line.0 line.1.at line.1.what known

  -- what is known of a step after these lines of its own
  abbrev pub lines_after : StepKind → List (ℕ × Event) → Option BegunStep → Option BegunStep
  lines_after kind [] known = known
  lines_after kind (line ∷ lines) known = lines_after kind lines (line_after kind line known)
