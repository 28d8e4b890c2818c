-- The steps of the plan stay the same along the lines of a run.
use Rattle.std.proofs.Common.{◌≡◌, ◌∙◌, ℕ, ◌+◌, ℤ, pos, List, [], ◌∷◌, Option, Some, None, refl}
use Rattle.std.specs.Prelude.{◌+ℤ◌}
use Rattle.apply_model.specs.declared.plan.step_kind.StepKind.{StepKind}
use Rattle.apply_events.specs.declared.event.Event as told
use Rattle.stream_record_lines.specs.declared.event.Event.{Event}
use Rattle.stream_record_lines.specs.declared.event.Event.TheVariants as event
use Rattle.stream_record_lines.specs.declared.step.StepStage.{StepStage}
use Rattle.stream_record_lines.specs.declared.step.StepStage.TheVariants as stage
use Rattle.stream_record_steps.specs.declared.begun_step.StepEnd.{StepEnd}
use Rattle.stream_record_steps.specs.declared.step_facts.StepFact.{StepFact}
use Rattle.stream_record_steps.specs.Begun.{Begun}
use Rattle.stream_record_steps.specs.Starts.{after_start_of}
use Rattle.stream_record_steps.specs.Taken.{after_stage}
use Rattle.stream_record_steps.specs.UnderWay.{after_end, after_fact}
use Rattle.laws_begun.specs.Telling.{Telling, after_events, after_stated, stated_of}

fact_keeps : (line : ℕ) (fact : StepFact) (place : Option ℕ) (begun : Begun) → (after_fact line fact place begun).planned ≡ begun.planned
fact_keeps line fact None begun = refl
fact_keeps line fact (Some place) begun = refl

end_keeps : (end : StepEnd) (place : Option ℕ) (begun : Begun) → (after_end end place begun).planned ≡ begun.planned
end_keeps end None begun = refl
end_keeps end (Some place) begun = refl

start_keeps : (line : ℕ) (second : ℤ) (kind : StepKind) (address : List ℕ) (place : Option ℕ) (begun : Begun)
    → (after_start_of line second kind address place begun).planned ≡ begun.planned
start_keeps line second kind address None begun = refl
start_keeps line second kind address (Some place) begun = refl

stage_keeps : (line : ℕ) (second : ℤ) (kind : StepKind) (address : List ℕ) (now : StepStage) (begun : Begun)
    → (after_stage line second kind address now begun).planned ≡ begun.planned
stage_keeps line second kind address (stage.Began id) begun = start_keeps line second kind address _ _
stage_keeps line second kind address (stage.Progress seconds) begun = fact_keeps line _ _ begun
stage_keeps line second kind address (stage.Completed seconds id_key id) begun = end_keeps _ _ begun
stage_keeps line second kind address (stage.Failed seconds) begun = end_keeps _ _ begun

line_keeps : (line : ℕ) (second : ℤ) (stated : Event) (begun : Begun) → (after_stated line second stated begun).planned ≡ begun.planned
line_keeps line second (event.Version ui) begun = refl
line_keeps line second (event.Step step) begun = stage_keeps line second step.kind step.address step.stage begun
line_keeps line second (event.Provisioner provisioner) begun = fact_keeps line _ _ begun
line_keeps line second event.Ephemeral begun = refl
line_keeps line second (event.Diagnostic note) begun = refl
line_keeps line second (event.Summary summary) begun = refl
line_keeps line second (event.Outputs outputs) begun = refl
line_keeps line second event.Malformed begun = refl
line_keeps line second event.Other begun = refl

pub events_keep : (telling : Telling) (start : ℤ) (line : ℕ) (events : List told.Event) (begun : Begun) → (after_events telling start line events begun).planned ≡ begun.planned
events_keep telling start line [] begun = refl
events_keep telling start line (one ∷ events) begun =
    events_keep telling start (line + 1) events (after_stated line (start +ℤ pos one.at) (stated_of telling one) begun)
    ∙ line_keeps line (start +ℤ pos one.at) (stated_of telling one) begun
