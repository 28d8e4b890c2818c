-- What a checker reads back from the object of an event's message.
use Rattle.std.proofs.Common.{◌≡◌, ℕ, List, codes, Bool, true, false, Option, Some, None, Ok, refl}
use Rattle.apply_model.specs.declared.plan.step_kind.StepKind.{StepKind}
use Rattle.apply_model.specs.declared.plan.step_kind.StepKind.TheVariants.{Create, Update, Delete, Read}
use Rattle.apply_model.specs.declared.script.diag.Diag.{Diag}
use Rattle.apply_model.specs.declared.script.outcome.Outcome.{Outcome}
use Rattle.apply_plan.specs.Plan.ResourceChange.{ResourceChange}
use Rattle.stream_message.specs.declared.stage.Stage.TheVariants as stage
use Rattle.stream_check.specs.declared.messages.timed_stage.TimedStage.TheVariants as timed_stage
use Rattle.stream_check.specs.Lines.{tree_message}
use Rattle.stream_check.specs.Message.{step, provision, diagnostic, typed_message, start_of, timed_of, provision_of, diagnostic_of}
use Rattle.apply_events.specs.declared.what.What.{What}
use Rattle.apply_events.specs.declared.what.What.TheVariants.{Start, Progress, Complete, Errored, ErrorNote, WarnNote, Halted, ProvisionStart, ProvisionOutput, ProvisionComplete, ProvisionErrored}
use Rattle.apply_text.specs.Lines.{message_object}
use Rattle.apply_text.specs.Message.{end_id, error_message, event_message, halt_of, hook_message, name_of, output_of, provision_message, start_id, failure_diag, warning_message, warning_of}
use Rattle.apply_text.specs.Objects.{diagnostic_object, hook_object, provisioner_object, resource_object}
use Rattle.apply_text.specs.UtcTimestamp.{timestamp_text}
use Rattle.laws_check.specs.Objects.{object_at, object_of}
use Rattle.laws_check.specs.ReadBack.{action_of, read_back}

start_is_read_back : (find : Bool) (change : ResourceChange) (kind : StepKind) (text : List ℕ) (id : Option (List ℕ)) (moment : List ℕ)
    → tree_message find (object_at moment (hook_message change kind text None id (codes "apply_start"))) ≡ Ok (step change.address (action_of kind) timed_stage.Start)
unfolding tree_message message_object typed_message start_of hook_object resource_object
start_is_read_back find change Create text None moment = refl
start_is_read_back find change Update text None moment = refl
start_is_read_back find change Delete text None moment = refl
start_is_read_back find change Read text None moment = refl
start_is_read_back find change Create text (Some id) moment = refl
start_is_read_back find change Update text (Some id) moment = refl
start_is_read_back find change Delete text (Some id) moment = refl
start_is_read_back find change Read text (Some id) moment = refl

progress_is_read_back : (find : Bool) (change : ResourceChange) (kind : StepKind) (text : List ℕ) (elapsed : ℕ) (moment : List ℕ)
    → tree_message find (object_at moment (hook_message change kind text (Some elapsed) None (codes "apply_progress"))) ≡ Ok (step change.address (action_of kind) (timed_stage.Progress elapsed))
unfolding tree_message message_object typed_message timed_of hook_object resource_object
progress_is_read_back find change Create text elapsed moment = refl
progress_is_read_back find change Update text elapsed moment = refl
progress_is_read_back find change Delete text elapsed moment = refl
progress_is_read_back find change Read text elapsed moment = refl

pub complete_is_read_back : (find : Bool) (change : ResourceChange) (kind : StepKind) (text : List ℕ) (elapsed : ℕ) (id : Option (List ℕ)) (moment : List ℕ)
    → tree_message find (object_at moment (hook_message change kind text (Some elapsed) id (codes "apply_complete"))) ≡ Ok (step change.address (action_of kind) (timed_stage.Complete elapsed))
unfolding tree_message message_object typed_message timed_of hook_object resource_object
complete_is_read_back find change Create text elapsed None moment = refl
complete_is_read_back find change Update text elapsed None moment = refl
complete_is_read_back find change Delete text elapsed None moment = refl
complete_is_read_back find change Read text elapsed None moment = refl
complete_is_read_back find change Create text elapsed (Some id) moment = refl
complete_is_read_back find change Update text elapsed (Some id) moment = refl
complete_is_read_back find change Delete text elapsed (Some id) moment = refl
complete_is_read_back find change Read text elapsed (Some id) moment = refl

errored_is_read_back : (find : Bool) (change : ResourceChange) (kind : StepKind) (text : List ℕ) (elapsed : ℕ) (moment : List ℕ)
    → tree_message find (object_at moment (hook_message change kind text (Some elapsed) None (codes "apply_errored"))) ≡ Ok (step change.address (action_of kind) (timed_stage.Errored elapsed))
unfolding tree_message message_object typed_message timed_of hook_object resource_object
errored_is_read_back find change Create text elapsed moment = refl
errored_is_read_back find change Update text elapsed moment = refl
errored_is_read_back find change Delete text elapsed moment = refl
errored_is_read_back find change Read text elapsed moment = refl

error_is_read_back : (find : Bool) (change : ResourceChange) (diag : Diag) (moment : List ℕ) → tree_message find (object_at moment (error_message change diag)) ≡ Ok (diagnostic true (Some change.address))
unfolding tree_message message_object typed_message diagnostic_of diagnostic_object
error_is_read_back find change diag moment = refl

warning_is_read_back : (find : Bool) (change : ResourceChange) (diag : Diag) (moment : List ℕ) → tree_message find (object_at moment (warning_message change diag)) ≡ Ok (diagnostic false (Some change.address))
unfolding tree_message message_object typed_message diagnostic_of diagnostic_object
warning_is_read_back find change diag moment = refl

provision_start_is_read_back : (find : Bool) (change : ResourceChange) (name text : List ℕ) (moment : List ℕ)
    → tree_message find (object_at moment (provision_message change name text None (codes "provision_start"))) ≡ Ok (provision change.address stage.Start)
unfolding tree_message message_object typed_message provision_of provisioner_object resource_object
provision_start_is_read_back find change name text moment = refl

provision_output_is_read_back : (find : Bool) (change : ResourceChange) (name text output : List ℕ) (moment : List ℕ)
    → tree_message find (object_at moment (provision_message change name text (Some output) (codes "provision_progress"))) ≡ Ok (provision change.address stage.Progress)
unfolding tree_message message_object typed_message provision_of provisioner_object resource_object
provision_output_is_read_back find change name text output moment = refl

provision_complete_is_read_back : (find : Bool) (change : ResourceChange) (name text : List ℕ) (moment : List ℕ)
    → tree_message find (object_at moment (provision_message change name text None (codes "provision_complete"))) ≡ Ok (provision change.address stage.Complete)
unfolding tree_message message_object typed_message provision_of provisioner_object resource_object
provision_complete_is_read_back find change name text moment = refl

provision_errored_is_read_back : (find : Bool) (change : ResourceChange) (name text : List ℕ) (moment : List ℕ)
    → tree_message find (object_at moment (provision_message change name text None (codes "provision_errored"))) ≡ Ok (provision change.address stage.Errored)
unfolding tree_message message_object typed_message provision_of provisioner_object resource_object
provision_errored_is_read_back find change name text moment = refl

pub read_back_of_kind : (find : Bool) (change : ResourceChange) (kind : StepKind) (outcome : Outcome) (what : What) (moment : List ℕ)
    → tree_message find (object_at moment (event_message change kind outcome what)) ≡ Ok (read_back change.address (action_of kind) what)
read_back_of_kind find change kind outcome Start moment = start_is_read_back find change kind _ (start_id kind change) moment
read_back_of_kind find change kind outcome (Progress elapsed) moment = progress_is_read_back find change kind _ elapsed moment
read_back_of_kind find change kind outcome (Complete elapsed) moment = complete_is_read_back find change kind _ elapsed (end_id kind outcome.result) moment
read_back_of_kind find change kind outcome (Errored elapsed) moment = errored_is_read_back find change kind _ elapsed moment
read_back_of_kind find change kind outcome ErrorNote moment = error_is_read_back find change (failure_diag outcome) moment
read_back_of_kind find change kind outcome WarnNote moment = warning_is_read_back find change (warning_of outcome.result) moment
read_back_of_kind find change kind outcome (Halted phase hook) moment = error_is_read_back find change (halt_of kind phase hook) moment
read_back_of_kind find change kind outcome (ProvisionStart i) moment = provision_start_is_read_back find change (name_of outcome i) _ moment
read_back_of_kind find change kind outcome (ProvisionOutput i line) moment = provision_output_is_read_back find change (name_of outcome i) _ (output_of outcome i line) moment
read_back_of_kind find change kind outcome (ProvisionComplete i) moment = provision_complete_is_read_back find change (name_of outcome i) _ moment
read_back_of_kind find change kind outcome (ProvisionErrored i) moment = provision_errored_is_read_back find change (name_of outcome i) _ moment

pub event_is_read_back : (find : Bool) (change : ResourceChange) (kind : StepKind) (outcome : Outcome) (what : What) (seconds : ℕ)
    → tree_message find (object_of seconds (event_message change kind outcome what)) ≡ Ok (read_back change.address (action_of kind) what)
event_is_read_back find change kind outcome what seconds = read_back_of_kind find change kind outcome what (timestamp_text seconds)
