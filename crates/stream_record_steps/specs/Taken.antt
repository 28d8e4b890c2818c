-- What a message makes of the steps that began.
use Rattle.std.specs.Prelude.{ℕ, ℤ, List, Option, Some, None}
use Rattle.apply_model.specs.declared.plan.step_kind.StepKind.{StepKind}
use Rattle.stream_record_lines.specs.declared.provisioner.Provisioner.{Provisioner}
use Rattle.stream_record_lines.specs.declared.provisioner.ProvisionerStage.{ProvisionerStage}
use Rattle.stream_record_lines.specs.declared.provisioner.ProvisionerStage.TheVariants as provisioner_stage
use Rattle.stream_record_lines.specs.declared.step.Step.{Step}
use Rattle.stream_record_lines.specs.declared.step.StepStage.{StepStage}
use Rattle.stream_record_lines.specs.declared.step.StepStage.TheVariants as step_stage
use Rattle.stream_record_steps.specs.declared.begun_step.EndResult.TheVariants as end_result
use Rattle.stream_record_steps.specs.declared.begun_step.StepEnd.{StepEnd}
use Rattle.stream_record_steps.specs.declared.step_facts.Stated.{Stated}
use Rattle.stream_record_steps.specs.declared.step_facts.Stated.TheVariants as stated
use Rattle.stream_record_steps.specs.Begun.{Begun}
use Rattle.stream_record_steps.specs.Starts.{after_start}
use Rattle.stream_record_steps.specs.Steps.{steps_at}
use Rattle.stream_record_steps.specs.UnderWay.{after_end, after_fact, provisioned_place, timed_place}

abbrev pub after_progress : (line : ℕ) → (second : ℤ) → StepKind → (address : List ℕ) → (seconds : ℕ) → Begun → Begun
after_progress line second kind address seconds begun =
    after_fact line (record { second = second; stated = stated.Progress seconds })
    (timed_place begun.by_step kind seconds second (steps_at begun.planned address)) begun

abbrev pub after_end_at : (second : ℤ) → StepKind → (address : List ℕ) → StepEnd → Begun → Begun
after_end_at second kind address end begun =
    after_end end (timed_place begun.by_step kind end.seconds second (steps_at begun.planned address)) begun

-- What a stage makes of the steps, but for the line of the last message about a step.
abbrev pub after_stage : (line : ℕ) → (second : ℤ) → StepKind → (address : List ℕ) → StepStage → Begun → Begun
after_stage line second kind address (step_stage.Began id) begun = after_start line second kind address id begun
after_stage line second kind address (step_stage.Progress seconds) begun = after_progress line second kind address seconds begun
after_stage line second kind address (step_stage.Completed seconds id_key id) begun =
    after_end_at second kind address (record { line = line; seconds = seconds; result = end_result.Completed id_key id }) begun
after_stage line second kind address (step_stage.Failed seconds) begun =
    after_end_at second kind address (record { line = line; seconds = seconds; result = end_result.Failed }) begun

-- A message about a step, on this line and of this second.
abbrev pub after_step : (line : ℕ) → (second : ℤ) → Step → Begun → Begun
after_step line second step begun = record (after_stage line second step.kind step.address step.stage begun) { latest = Some line }

-- What a stage of a provisioner states of its step.
abbrev pub stated_by : (name : List ℕ) → ProvisionerStage → Stated
stated_by name provisioner_stage.Began = stated.ProvisionerBegan name
stated_by name (provisioner_stage.Wrote output) = stated.Wrote output
stated_by name provisioner_stage.Ended = stated.ProvisionerEnded
stated_by name provisioner_stage.Failed = stated.ProvisionerFailed

-- A message about a provisioner, on this line and of this second.
abbrev pub after_provisioner : (line : ℕ) → (second : ℤ) → Provisioner → Begun → Begun
after_provisioner line second provisioner begun =
    after_fact line (record { second = second; stated = stated_by provisioner.name provisioner.stage })
    (provisioned_place begun.by_step (steps_at begun.planned provisioner.address)) begun
