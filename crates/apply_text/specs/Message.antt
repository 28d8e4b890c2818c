-- The message of each event, and the summary (Machine-Readable UI).
use Rattle.std.specs.Prelude.{ℕ, List, [], ◌++◌, codes, decimal, slice_get, Option, Some, None, unwrap_or}
use Rattle.std.specs.Option.{option_map_or}
use Rattle.serde_json.specs.Data.{Data}
use Rattle.apply_model.specs.declared.plan.step_kind.StepKind.{StepKind}
use Rattle.apply_model.specs.declared.plan.step_kind.StepKind.TheVariants.{Create, Update, Delete, Read}
use Rattle.apply_model.specs.declared.script.diag.Diag.{Diag}
use Rattle.apply_model.specs.declared.script.ending.Ending.{Ending}
use Rattle.apply_model.specs.declared.script.outcome.Outcome.{Outcome}
use Rattle.apply_model.specs.Plan.ResourceChange.{ResourceChange}
use Rattle.apply_model.specs.Script.Outcome.{failure_of, warning_in}
use Rattle.apply_hooks.specs.declared.phase.Phase.{Phase}
use Rattle.apply_events.specs.declared.counts.Counts.{Counts}
use Rattle.apply_events.specs.declared.what.What.{What}
use Rattle.apply_events.specs.declared.what.What.TheVariants.{Start, Progress, Complete, Errored, ErrorNote, WarnNote, Halted, ProvisionStart, ProvisionOutput, ProvisionComplete, ProvisionErrored}
use Rattle.apply_text.specs.declared.operation.Operation.{Operation}
use Rattle.apply_text.specs.declared.operation.Operation.TheVariants.{Apply, Destroy}
use Rattle.apply_text.specs.Elapsed.{elapsed_of}
use Rattle.apply_text.specs.Objects.{changes_object, diagnostic_object, hook_object, provisioner_object}
use Rattle.apply_text.specs.Words.{action_word, noun_word, phase_words, start_word, still_word}
-- the id that the provider gives, and the id that a completion shows
pub use Rattle.apply_model.specs.Script.Outcome.{end_id, provider_id}

-- a message: its level, its text, its type, and the one member that only messages of this type have
pub record Message : Type 0 where
  pub level : List ℕ
  pub text : List ℕ
  pub name : List ℕ
  pub body : Data
  pub type_name : List ℕ

-- ---- ids

-- the id that a start shows: the prior id; none for a create
abbrev pub start_id : StepKind → ResourceChange → Option (List ℕ)
start_id Create change = None
start_id Update change = change.prior_id
start_id Delete change = change.prior_id
start_id Read change = change.prior_id

abbrev pub id_suffix : Option (List ℕ) → List ℕ
id_suffix None = []
id_suffix (Some id) = codes " [id=" ++ id ++ codes "]"

-- ---- what happens to a step

-- a message about a step of a change, with the elapsed seconds and the object's id where given
abbrev pub hook_message : ResourceChange → StepKind → (text : List ℕ) → (elapsed : Option ℕ) → (id : Option (List ℕ))
    → (type_name : List ℕ) → Message
hook_message change step text elapsed id type_name = record {
  level = codes "info";
  text = change.address ++ codes ": " ++ text;
  name = codes "hook";
  body = hook_object change step elapsed id;
  type_name = type_name;
}

abbrev pub start_message : ResourceChange → StepKind → (id : Option (List ℕ)) → Message
start_message change step id =
    hook_message change step (start_word step ++ codes "..." ++ id_suffix id) None id (codes "apply_start")

abbrev pub progress_message : ResourceChange → StepKind → (seconds : ℕ) → Message
progress_message change step seconds =
    hook_message change step
    (codes "Still " ++ still_word step ++ codes "... [" ++ elapsed_of seconds ++ codes " elapsed]")
    (Some seconds) None (codes "apply_progress")

abbrev pub complete_message : ResourceChange → StepKind → (seconds : ℕ) → (id : Option (List ℕ)) → Message
complete_message change step seconds id =
    hook_message change step
    (noun_word step ++ codes " complete after " ++ elapsed_of seconds ++ id_suffix id)
    (Some seconds) id (codes "apply_complete")

abbrev pub errored_message : ResourceChange → StepKind → (seconds : ℕ) → Message
errored_message change step seconds =
    hook_message change step
    (noun_word step ++ codes " errored after " ++ elapsed_of seconds)
    (Some seconds) None (codes "apply_errored")

-- ---- what provisioners do

-- a message about a provisioner of a change, with a line of its output where given
abbrev pub provision_message : ResourceChange → (name text : List ℕ) → (output : Option (List ℕ))
    → (type_name : List ℕ) → Message
provision_message change name text output type_name = record {
  level = codes "info";
  text = change.address ++ codes ": " ++ text;
  name = codes "hook";
  body = provisioner_object change name output;
  type_name = type_name;
}

abbrev pub provision_start_message : ResourceChange → (name : List ℕ) → Message
provision_start_message change name =
    provision_message change name
    (codes "Provisioning with '" ++ name ++ codes "'...")
    None (codes "provision_start")

abbrev pub provision_output_message : ResourceChange → (name output : List ℕ) → Message
provision_output_message change name output =
    provision_message change name
    (codes "(" ++ name ++ codes "): " ++ output)
    (Some output) (codes "provision_progress")

abbrev pub provision_complete_message : ResourceChange → (name : List ℕ) → Message
provision_complete_message change name =
    provision_message change name
    (codes "(" ++ name ++ codes ") Provisioning complete")
    None (codes "provision_complete")

abbrev pub provision_errored_message : ResourceChange → (name : List ℕ) → Message
provision_errored_message change name =
    provision_message change name
    (codes "(" ++ name ++ codes ") Provisioning errored")
    None (codes "provision_errored")

-- the name of provisioner i; empty where there is no such provisioner
abbrev pub name_of : Outcome → (i : ℕ) → List ℕ
name_of outcome i = option_map_or (λ provisioner. provisioner.name) (slice_get outcome.provisioners i) []

-- output `line` of provisioner i; empty where there is no such output
abbrev pub output_of : Outcome → (i line : ℕ) → List ℕ
output_of outcome i line =
    option_map_or (λ provisioner. option_map_or (λ timed. timed.text) (slice_get provisioner.output line) [])
    (slice_get outcome.provisioners i) []

-- ---- diagnostics

abbrev pub diagnostic_message : (address level severity label : List ℕ) → Diag → Message
diagnostic_message address level severity label diag = record {
  level = level;
  text = label ++ codes ": " ++ diag.summary;
  name = codes "diagnostic";
  body = diagnostic_object address severity diag;
  type_name = codes "diagnostic";
}

abbrev pub error_message : ResourceChange → Diag → Message
error_message change diag =
    diagnostic_message change.address (codes "error") (codes "error") (codes "Error") diag

abbrev pub warning_message : ResourceChange → Diag → Message
warning_message change diag =
    diagnostic_message change.address (codes "warn") (codes "warning") (codes "Warning") diag

-- the diagnostic where the script gives none: all texts are empty
abbrev pub no_diag : Diag
no_diag = record { summary = []; detail = []; range = None; snippet = None }

-- why the step failed: the provider's diagnostic, or the failed provisioner's
abbrev pub failure_diag : Outcome → Diag
failure_diag outcome = unwrap_or (failure_of outcome) no_diag

-- the provider's warning, or the reason of a failure that only warns
abbrev pub warning_of : Ending → Diag
warning_of ending = unwrap_or (warning_in ending) no_diag

-- the diagnostic of a hook that halts a change
abbrev pub halted_with : (detail : List ℕ) → Diag
halted_with detail = record { summary = codes "execution halted"; detail = detail; range = None; snippet = None }

abbrev pub halt_of : StepKind → Phase → (hook : ℕ) → Diag
halt_of step phase hook =
    halted_with
    (codes "Hook " ++ decimal hook ++ codes " answered Halt "
    ++ phase_words phase ++ codes " " ++ action_word step ++ codes ".")

-- ---- events, and the end

-- the message of an event of a step, where the step has this outcome
abbrev pub event_message : ResourceChange → StepKind → Outcome → What → Message
event_message change step outcome Start = start_message change step (start_id step change)
event_message change step outcome (Progress seconds) = progress_message change step seconds
event_message change step outcome (Complete seconds) = complete_message change step seconds (end_id step outcome.result)
event_message change step outcome (Errored seconds) = errored_message change step seconds
event_message change step outcome ErrorNote = error_message change (failure_diag outcome)
event_message change step outcome WarnNote = warning_message change (warning_of outcome.result)
event_message change step outcome (Halted phase hook) = error_message change (halt_of step phase hook)
event_message change step outcome (ProvisionStart i) = provision_start_message change (name_of outcome i)
event_message change step outcome (ProvisionOutput i line) =
    provision_output_message change (name_of outcome i) (output_of outcome i line)
event_message change step outcome (ProvisionComplete i) = provision_complete_message change (name_of outcome i)
event_message change step outcome (ProvisionErrored i) = provision_errored_message change (name_of outcome i)

abbrev pub totals_text : Operation → Counts → List ℕ
totals_text Apply counts =
    codes "Apply complete! Resources: " ++ decimal counts.added ++ codes " added, "
    ++ decimal counts.changed ++ codes " changed, "
    ++ decimal counts.removed ++ codes " destroyed."
totals_text Destroy counts =
    codes "Destroy complete! Resources: " ++ decimal counts.removed ++ codes " destroyed."

-- the last message: the counts of completed changes
abbrev pub summary_message : Operation → Counts → Message
summary_message operation counts = record {
  level = codes "info";
  text = totals_text operation counts;
  name = codes "changes";
  body = changes_object operation counts;
  type_name = codes "change_summary";
}
