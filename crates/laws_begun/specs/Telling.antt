-- What the lines of a run state of its steps, as `record` reads them.
use Rattle.std.specs.Prelude.{ℕ, ℤ, pos, ◌+ℤ◌, ◌+◌, List, [], ◌∷◌, codes, slice_get, Option, option_map}
use Rattle.std.specs.Option.{option_map_or}
use Rattle.apply_model.specs.declared.plan.step_kind.StepKind.{StepKind}
use Rattle.apply_model.specs.Plan.ResourceChange.{ResourceChange}
use Rattle.apply_model.specs.Plan.SavedPlan.{SavedPlan}
use Rattle.apply_model.specs.Script.OutcomeMap.{OutcomeMap, outcome_of}
use Rattle.apply_events.specs.declared.what.What.{What}
use Rattle.apply_events.specs.declared.what.What.TheVariants.{Start, Progress, Complete, Errored, ErrorNote, WarnNote, Halted, ProvisionStart, ProvisionOutput, ProvisionComplete, ProvisionErrored}
use Rattle.apply_events.specs.declared.event.Event as told
use Rattle.apply_text.specs.Message.{name_of, output_of, start_id}
use Rattle.stream_record_lines.specs.declared.event.Event.{Event}
use Rattle.stream_record_lines.specs.declared.event.Event.TheVariants as event
use Rattle.stream_record_lines.specs.declared.provisioner.ProvisionerStage.{ProvisionerStage}
use Rattle.stream_record_lines.specs.declared.provisioner.ProvisionerStage.TheVariants as provisioner_stage
use Rattle.stream_record_lines.specs.declared.step.StepStage.{StepStage}
use Rattle.stream_record_lines.specs.declared.step.StepStage.TheVariants as step_stage
use Rattle.stream_record_steps.specs.Begun.{Begun}
use Rattle.stream_record_steps.specs.Taken.{after_provisioner, after_step}

-- What is told: the plan, the script, and the id that the end of each step reports.
pub record Telling : Type 0 where
  pub plan : SavedPlan
  pub script : OutcomeMap
  pub id : (change step : ℕ) → Option (List ℕ)

-- ---- what a line states

abbrev pub step_line : ResourceChange → StepKind → StepStage → Event
step_line change kind stage = event.Step (record { address = change.address; kind = kind; stage = stage })

abbrev pub provisioner_line : ResourceChange → (name : List ℕ) → ProvisionerStage → Event
provisioner_line change name stage = event.Provisioner (record { address = change.address; name = name; stage = stage })

-- The member of an object that is its id, where the id is reported.
abbrev pub id_key : Option (List ℕ) → Option (List ℕ)
id_key id = option_map (λ id. codes "id") id

-- What the line of an event states. That of a diagnostic states nothing of its step.
abbrev pub line_of : Telling → ResourceChange → StepKind → (change step : ℕ) → What → Event
line_of telling change kind c k Start = step_line change kind (step_stage.Began (start_id kind change))
line_of telling change kind c k (Progress seconds) = step_line change kind (step_stage.Progress seconds)
line_of telling change kind c k (Complete seconds) =
    step_line change kind (step_stage.Completed seconds (id_key (telling.id c k)) (telling.id c k))
line_of telling change kind c k (Errored seconds) = step_line change kind (step_stage.Failed seconds)
line_of telling change kind c k ErrorNote = event.Other
line_of telling change kind c k WarnNote = event.Other
line_of telling change kind c k (Halted phase hook) = event.Other
line_of telling change kind c k (ProvisionStart i) =
    provisioner_line change (name_of (outcome_of telling.script c k) i) provisioner_stage.Began
line_of telling change kind c k (ProvisionOutput i line) =
    provisioner_line change (name_of (outcome_of telling.script c k) i) (provisioner_stage.Wrote (output_of (outcome_of telling.script c k) i line))
line_of telling change kind c k (ProvisionComplete i) =
    provisioner_line change (name_of (outcome_of telling.script c k) i) provisioner_stage.Ended
line_of telling change kind c k (ProvisionErrored i) =
    provisioner_line change (name_of (outcome_of telling.script c k) i) provisioner_stage.Failed

-- The same by the plan; nothing of a step that the plan does not have.
abbrev pub stated_of : Telling → told.Event → Event
stated_of telling one =
    option_map_or (λ change. option_map_or (λ kind. line_of telling change kind one.change one.step one.what) (slice_get change.steps one.step) event.Other)
    (slice_get telling.plan.changes one.change) event.Other

-- ---- what lines make of the steps

abbrev pub after_stated : (line : ℕ) → (second : ℤ) → Event → Begun → Begun
after_stated line second (event.Version ui) begun = begun
after_stated line second (event.Step step) begun = after_step line second step begun
after_stated line second (event.Provisioner provisioner) begun = after_provisioner line second provisioner begun
after_stated line second event.Ephemeral begun = begun
after_stated line second (event.Diagnostic note) begun = begun
after_stated line second (event.Summary summary) begun = begun
after_stated line second (event.Outputs outputs) begun = begun
after_stated line second event.Malformed begun = begun
after_stated line second event.Other begun = begun

-- The steps after the lines of these events. The first line has this number; `start` is the second in
-- which the run starts.
abbrev pub after_events : Telling → (start : ℤ) → (line : ℕ) → List told.Event → Begun → Begun
after_events telling start line [] begun = begun
after_events telling start line (one ∷ events) begun =
    after_events telling start (line + 1) events (after_stated line (start +ℤ pos one.at) (stated_of telling one) begun)
