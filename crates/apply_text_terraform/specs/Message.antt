-- The message of each event, and the messages that only Terraform's form has (Machine-Readable UI).
use Rattle.std.specs.Prelude.{ℕ, List, [], ◌++◌, codes, decimal, ◌==◌, ◌&&◌, Bool, true, false, if◌then◌else◌, is_some, not, Option, Some, None}
use Rattle.std.specs.Option.{option_or}
use Rattle.serde_json.specs.Data.{Data}
use Rattle.apply_model.specs.declared.details.change_details.ChangeDetails.{ChangeDetails}
use Rattle.apply_model.specs.declared.details.note.Note.{Note}
use Rattle.apply_model.specs.declared.details.note.Severity.{Severity}
use Rattle.apply_model.specs.declared.details.note.Severity.TheVariants.{Error, Warning}
use Rattle.apply_model.specs.declared.plan.step_kind.StepKind.{StepKind}
use Rattle.apply_model.specs.declared.plan.step_kind.StepKind.TheVariants.{Create, Update, Delete, Read}
use Rattle.apply_model.specs.declared.script.ending.Ending.{Ending}
use Rattle.apply_model.specs.declared.script.outcome.Outcome.{Outcome}
use Rattle.apply_model.specs.Plan.ResourceChange.{ResourceChange}
use Rattle.apply_model.specs.Plan.StepKind.{is_kind}
use Rattle.apply_model.specs.Script.Outcome.{first_diag}
use Rattle.apply_events.specs.declared.counts.Counts.{Counts}
use Rattle.apply_events.specs.declared.what.What.{What}
use Rattle.apply_events.specs.declared.what.What.TheVariants.{Start, Progress, Complete, Errored, ErrorNote, WarnNote, Halted, ProvisionStart, ProvisionOutput, ProvisionComplete, ProvisionErrored}
use Rattle.apply_text.specs.declared.operation.Operation.{Operation}
use Rattle.apply_text.specs.declared.operation.Operation.TheVariants.{Apply, Destroy}
use Rattle.apply_text.specs.Message.{Message, complete_message, error_message, errored_message, halt_of, name_of, output_of, progress_message, provision_complete_message, provision_errored_message, provision_output_message, provision_start_message, start_id, start_message, failure_diag, provider_id, totals_text, warning_message, warning_of}
use Rattle.apply_text_terraform.specs.Verbatim.{verbatim_members}
use Rattle.apply_text_terraform.specs.Objects.{change_object, changes_object, diagnostic_object, hook_object, provisioner_object}

-- the message with its object in the order of this form
abbrev pub with_body : Message → Data → Message
with_body message body = record message { body = body }

-- ---- events of a step

-- the id that a completion shows: the provider's, else the planned one; none for a delete
abbrev pub end_id : StepKind → Ending → (planned : Option (List ℕ)) → Option (List ℕ)
end_id Create ending planned = option_or (provider_id ending) planned
end_id Update ending planned = option_or (provider_id ending) planned
end_id Delete ending planned = None
end_id Read ending planned = option_or (provider_id ending) planned

-- the address of a provider's diagnostic; none at a delete, unless a provisioner failed
abbrev pub diagnostic_address : ResourceChange → StepKind → Outcome → Option (List ℕ)
diagnostic_address change step outcome =
    if is_kind Delete step && not (is_some (first_diag outcome.provisioners)) then None else Some change.address

-- the message of an event of a step with this outcome; `planned` is the id that the plan gives
abbrev pub event_message : ResourceChange → StepKind → Outcome → (planned : Option (List ℕ)) → What → Message
event_message change step outcome planned Start =
    with_body (start_message change step (start_id step change)) (hook_object change step None (start_id step change))
event_message change step outcome planned (Progress seconds) =
    with_body (progress_message change step seconds) (hook_object change step (Some seconds) None)
event_message change step outcome planned (Complete seconds) =
    with_body (complete_message change step seconds (end_id step outcome.result planned))
    (hook_object change step (Some seconds) (end_id step outcome.result planned))
event_message change step outcome planned (Errored seconds) =
    with_body (errored_message change step seconds) (hook_object change step (Some seconds) None)
event_message change step outcome planned ErrorNote =
    with_body (error_message change (failure_diag outcome))
    (diagnostic_object (diagnostic_address change step outcome) (codes "error") (failure_diag outcome))
event_message change step outcome planned WarnNote =
    with_body (warning_message change (warning_of outcome.result))
    (diagnostic_object (diagnostic_address change step outcome) (codes "warning") (warning_of outcome.result))
event_message change step outcome planned (Halted phase hook) =
    with_body (error_message change (halt_of step phase hook))
    (diagnostic_object (Some change.address) (codes "error") (halt_of step phase hook))
event_message change step outcome planned (ProvisionStart i) =
    with_body (provision_start_message change (name_of outcome i)) (provisioner_object change (name_of outcome i) None)
event_message change step outcome planned (ProvisionOutput i line) =
    with_body (provision_output_message change (name_of outcome i) (output_of outcome i line))
    (provisioner_object change (name_of outcome i) (Some (output_of outcome i line)))
event_message change step outcome planned (ProvisionComplete i) =
    with_body (provision_complete_message change (name_of outcome i)) (provisioner_object change (name_of outcome i) None)
event_message change step outcome planned (ProvisionErrored i) =
    with_body (provision_errored_message change (name_of outcome i)) (provisioner_object change (name_of outcome i) None)

-- the verbatim members of an event's diagnostic; empty where the event is none
abbrev pub verbatim_of : Outcome → What → List ℕ
verbatim_of outcome Start = []
verbatim_of outcome (Progress seconds) = []
verbatim_of outcome (Complete seconds) = []
verbatim_of outcome (Errored seconds) = []
verbatim_of outcome ErrorNote = verbatim_members (failure_diag outcome)
verbatim_of outcome WarnNote = verbatim_members (warning_of outcome.result)
verbatim_of outcome (Halted phase hook) = []
verbatim_of outcome (ProvisionStart i) = []
verbatim_of outcome (ProvisionOutput i line) = []
verbatim_of outcome (ProvisionComplete i) = []
verbatim_of outcome (ProvisionErrored i) = []

-- the end of a failed read has no line; its diagnostic has one
abbrev pub is_silent : StepKind → What → Bool
is_silent Read (Errored seconds) = true
is_silent _ _ = false

-- ---- what is planned

-- the message of a planned change; `word` is the planned action
abbrev pub planned_message : ResourceChange → (word : List ℕ) → ChangeDetails → Message
planned_message change word details = record {
  level = codes "info";
  text = change.address ++ codes ": Plan to " ++ word;
  name = codes "change";
  body = change_object change word details;
  type_name = codes "planned_change";
}

-- ---- diagnostics of no step

-- the level of the message, the severity of the diagnostic, and the word before its summary
abbrev pub severity_words : Severity → List ℕ × List ℕ × List ℕ
severity_words Warning = (codes "warn", codes "warning", codes "Warning")
severity_words Error = (codes "error", codes "error", codes "Error")

-- the message of a diagnostic of no step, without its verbatim members
abbrev pub note_message : Note → Message
note_message note = record {
  level = (severity_words note.severity).0;
  text = (severity_words note.severity).2 ++ codes ": " ++ note.diag.summary;
  name = codes "diagnostic";
  body = diagnostic_object note.address (severity_words note.severity).1 note.diag;
  type_name = codes "diagnostic";
}

-- ---- the end

-- the part of the summary about imports; empty where there are none
abbrev pub imported_text : ℕ → List ℕ
imported_text imported = if imported == 0 then [] else (decimal imported ++ codes " imported, ")

abbrev pub summary_words : Operation → Counts → (imported : ℕ) → List ℕ
summary_words Apply counts imported =
    codes "Apply complete! Resources: " ++ imported_text imported ++ decimal counts.added ++ codes " added, "
    ++ decimal counts.changed ++ codes " changed, "
    ++ decimal counts.removed ++ codes " destroyed."
summary_words Destroy counts imported = totals_text Destroy counts

-- the summary: the counts of completed changes and of imports
abbrev pub summary_message : Operation → Counts → (imported : ℕ) → Message
summary_message operation counts imported = record {
  level = codes "info";
  text = summary_words operation counts imported;
  name = codes "changes";
  body = changes_object operation counts imported;
  type_name = codes "change_summary";
}
