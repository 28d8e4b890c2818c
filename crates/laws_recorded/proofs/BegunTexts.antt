-- What is known of the steps that began: sound texts, message after message.
use Rattle.std.proofs.Common.{ℕ, ℤ, List, [], ◌∷◌, IsUtf8, true, Option, Some, None}
use Rattle.std.specs.Prelude.{⊤, IfSome, option_map, slice_get}
use Rattle.std.specs.List.{AllByRecursion}
use Rattle.std.specs.Option.{option_flatten}
use Rattle.apply_model.specs.declared.plan.step_kind.StepKind.{StepKind}
use Rattle.stream_record_lines.specs.declared.provisioner.Provisioner.{Provisioner}
use Rattle.stream_record_lines.specs.declared.provisioner.ProvisionerStage.{ProvisionerStage}
use Rattle.stream_record_lines.specs.declared.provisioner.ProvisionerStage.TheVariants as provisioner_stage
use Rattle.stream_record_lines.specs.declared.step.Step.{Step}
use Rattle.stream_record_lines.specs.declared.step.StepStage.{StepStage}
use Rattle.stream_record_lines.specs.declared.step.StepStage.TheVariants as step_stage
use Rattle.stream_record_steps.specs.Begun.{Begun, begun_at, none_begun}
use Rattle.stream_record_steps.specs.Starts.{after_start_of, first_known, taken_place}
use Rattle.stream_record_steps.specs.Steps.{PlannedStep, steps_at}
use Rattle.stream_record_steps.specs.Taken.{after_provisioner, after_stage, after_step, stated_by}
use Rattle.stream_record_steps.specs.UnderWay.{after_end, after_fact, changed_at, ended, plus_fact, provisioned_place, timed_place}
use Rattle.stream_record_steps.specs.declared.begun_step.BegunStep.{BegunStep}
use Rattle.stream_record_steps.specs.declared.begun_step.EndResult.{EndResult}
use Rattle.stream_record_steps.specs.declared.begun_step.EndResult.TheVariants as end_result
use Rattle.stream_record_steps.specs.declared.begun_step.StepEnd.{StepEnd}
use Rattle.stream_record_steps.specs.declared.step_facts.StepFact.{StepFact}
use Rattle.stream_record_steps.specs.declared.step_facts.Stated.{Stated}
use Rattle.stream_record_steps.specs.declared.step_facts.Stated.TheVariants as stated
use Rattle.laws_recorded.proofs.EventTexts.{IsSoundStage, IsSoundTurn}
use Rattle.laws_check.proofs.Given.{mapped}
use Rattle.laws_recorded.proofs.Lists.{all_mapped, item_at, joined, replaced}

-- ---- what is sound

abbrev pub IsSoundStated : Stated → Type 0
IsSoundStated (stated.Progress seconds) = ⊤
IsSoundStated (stated.ProvisionerBegan name) = IsUtf8 name
IsSoundStated (stated.Wrote output) = IsUtf8 output
IsSoundStated stated.ProvisionerEnded = ⊤
IsSoundStated stated.ProvisionerFailed = ⊤

abbrev pub IsSoundFact : StepFact → Type 0
IsSoundFact fact = IsSoundStated fact.stated

abbrev pub IsSoundResult : EndResult → Type 0
IsSoundResult (end_result.Completed id_key id) = IfSome id IsUtf8
IsSoundResult end_result.Failed = ⊤

abbrev pub IsSoundEnd : StepEnd → Type 0
IsSoundEnd end = IsSoundResult end.result

pub record IsSoundStep (step : BegunStep) : Type 0 where
  pub facts : AllByRecursion IsSoundFact step.facts
  pub end : IfSome step.end IsSoundEnd

abbrev pub IsSoundSlot : Option BegunStep → Type 0
IsSoundSlot slot = IfSome slot IsSoundStep

pub record IsSoundBegun (begun : Begun) : Type 0 where
  pub by_step : AllByRecursion IsSoundSlot begun.by_step

-- ---- one slot

pub slot_at : (by_step : List (Option BegunStep)) (place : ℕ) → AllByRecursion IsSoundSlot by_step → IfSome (begun_at by_step place) IsSoundStep
slot_at by_step place h = of_slot (slice_get by_step place) (item_at IsSoundSlot by_step place h)
  where
    of_slot : (o : Option (Option BegunStep)) → IfSome o IsSoundSlot → IfSome (option_flatten o) IsSoundStep
    of_slot None h = tt
    of_slot (Some slot) h = h

changed_sound : (place : ℕ) (change : BegunStep → BegunStep) (by_step : List (Option BegunStep)) → ((step : BegunStep) → IsSoundStep step → IsSoundStep (change step))
    → AllByRecursion IsSoundSlot by_step → AllByRecursion IsSoundSlot (changed_at place change by_step)
changed_sound place change by_step kept h =
    replaced IsSoundSlot by_step place (option_map change (begun_at by_step place)) h
    (mapped IsSoundStep IsSoundStep change (begun_at by_step place) kept (slot_at by_step place h))

-- ---- messages

pub none_sound : (planned : List PlannedStep) → IsSoundBegun (none_begun planned)
none_sound planned = record { by_step = all_mapped IsSoundSlot (λ step. None) planned (λ step. tt) }

start_sound : (line : ℕ) (second : ℤ) (kind : StepKind) (address : List ℕ) (place : Option ℕ) (begun : Begun) → IsSoundBegun begun → IsSoundBegun (after_start_of line second kind address place begun)
start_sound line second kind address None begun h = record { by_step = h.by_step }
start_sound line second kind address (Some place) begun h =
    record { by_step = replaced IsSoundSlot begun.by_step place (Some (first_known line second kind begun.latest)) h.by_step (record { facts = tt; end = tt }) }

fact_sound : (line : ℕ) (fact : StepFact) (place : Option ℕ) (begun : Begun) → IsSoundFact fact → IsSoundBegun begun → IsSoundBegun (after_fact line fact place begun)
fact_sound line fact None begun one h = record { by_step = h.by_step }
fact_sound line fact (Some place) begun one h =
    record { by_step = changed_sound place (plus_fact fact) begun.by_step (λ step sound. record { facts = joined IsSoundFact step.facts (fact ∷ []) sound.facts (one, tt); end = sound.end }) h.by_step }

end_sound : (end : StepEnd) (place : Option ℕ) (begun : Begun) → IsSoundEnd end → IsSoundBegun begun → IsSoundBegun (after_end end place begun)
end_sound end None begun one h = record { by_step = h.by_step }
end_sound end (Some place) begun one h =
    record { by_step = changed_sound place (ended end) begun.by_step (λ step sound. record { facts = sound.facts; end = one }) h.by_step }

stage_kept : (line : ℕ) (second : ℤ) (kind : StepKind) (address : List ℕ) (s : StepStage) (begun : Begun) → IsSoundStage s → IsSoundBegun begun → IsSoundBegun (after_stage line second kind address s begun)
stage_kept line second kind address (step_stage.Began id) begun one h =
    start_sound line second kind address (taken_place begun.by_step kind id (steps_at begun.planned address)) (record begun { has_starts = true }) (record { by_step = h.by_step })
stage_kept line second kind address (step_stage.Progress seconds) begun one h =
    fact_sound line (record { second = second; stated = stated.Progress seconds }) (timed_place begun.by_step kind seconds second (steps_at begun.planned address)) begun tt h
stage_kept line second kind address (step_stage.Completed seconds id_key id) begun one h =
    end_sound (record { line = line; seconds = seconds; result = end_result.Completed id_key id }) (timed_place begun.by_step kind seconds second (steps_at begun.planned address)) begun one h
stage_kept line second kind address (step_stage.Failed seconds) begun one h =
    end_sound (record { line = line; seconds = seconds; result = end_result.Failed }) (timed_place begun.by_step kind seconds second (steps_at begun.planned address)) begun tt h

pub step_kept : (line : ℕ) (second : ℤ) (step : Step) (begun : Begun) → IsSoundStage step.stage → IsSoundBegun begun → IsSoundBegun (after_step line second step begun)
step_kept line second step begun one h = record { by_step = (stage_kept line second step.kind step.address step.stage begun one h).by_step }

stated_sound : (name : List ℕ) (s : ProvisionerStage) → IsUtf8 name → IsSoundTurn s → IsSoundStated (stated_by name s)
stated_sound name provisioner_stage.Began utf8 h = utf8
stated_sound name (provisioner_stage.Wrote output) utf8 h = h
stated_sound name provisioner_stage.Ended utf8 h = tt
stated_sound name provisioner_stage.Failed utf8 h = tt

pub provisioner_kept : (line : ℕ) (second : ℤ) (provisioner : Provisioner) (begun : Begun) → IsUtf8 provisioner.name × IsSoundTurn provisioner.stage → IsSoundBegun begun
    → IsSoundBegun (after_provisioner line second provisioner begun)
provisioner_kept line second provisioner begun one h =
    fact_sound line (record { second = second; stated = stated_by provisioner.name provisioner.stage }) (provisioned_place begun.by_step (steps_at begun.planned provisioner.address)) begun
    (stated_sound provisioner.name provisioner.stage one.0 one.1) h
