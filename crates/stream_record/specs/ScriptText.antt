-- The text of a script (docs/script.md).
use Rattle.std.specs.Prelude.{ℕ, ◌+◌, ◌==◌, ◌&&◌, List, [], ◌∷◌, ◌++◌, codes, decimal, length, map, filter_map, Bool, false, nat_le, nat_lt, if◌then◌else◌, Option, Some, None, is_none, option_and_then, option_map, slice_get, Result, Ok, Err}
use Rattle.apply_model.specs.declared.details.note.Note.{Note}
use Rattle.apply_model.specs.declared.details.note.Severity.{Severity}
use Rattle.apply_model.specs.declared.details.note.Severity.TheVariants.{Error, Warning}
use Rattle.apply_model.specs.declared.script.diag.Diag.{Diag}
use Rattle.apply_model.specs.declared.script.ending.Ending.{Ending}
use Rattle.apply_model.specs.declared.script.ending.Ending.TheVariants.{Done, Failed, Warned}
use Rattle.apply_model.specs.declared.script.outcome.Outcome.{Outcome}
use Rattle.apply_model.specs.declared.script.provisioner.Provisioner.{Provisioner}
use Rattle.apply_model.specs.declared.script.script_step.ScriptStep.{ScriptStep}
use Rattle.apply_model.specs.declared.script.script_step.ScriptStep.TheVariants.{Answered, Skipped}
use Rattle.apply_model.specs.declared.script.timed_text.TimedText.{TimedText}
use Rattle.apply_model.specs.declared.script.wait.Wait.{Wait}
use Rattle.apply_model.specs.Plan.ResourceChange.{ResourceChange}
use Rattle.apply_model.specs.Script.OutcomeMap.{OutcomeMap, stated_steps}
use Rattle.stream_record.specs.declared.output.Output.{Output}
use Rattle.stream_record.specs.declared.script_fault.ScriptFault.{ScriptFault}
use Rattle.stream_record.specs.declared.script_fault.ScriptFault.TheVariants.{TooLarge}
use Rattle.stream_record.specs.Parts.{flag_text, json_text, list_text, raw_member, text_member}

-- The most bytes of a script: 64 MiB.
abbrev pub max_bytes : ℕ
max_bytes = 67108864

-- ---- diagnostics

-- The detail, unless it is empty.
abbrev pub detail_text : List ℕ → List ℕ
detail_text [] = []
detail_text (byte ∷ bytes) = codes ",\"detail\":" ++ json_text (byte ∷ bytes)

-- A diagnostic, after `front`: what stands before its summary.
abbrev pub diag_text : (front : List ℕ) → (address : Option (List ℕ)) → Diag → List ℕ
diag_text front address diag =
    front ++ codes "\"summary\":" ++ json_text diag.summary ++ detail_text diag.detail
    ++ text_member (codes ",\"address\":") address
    ++ raw_member (codes ",\"range\":") diag.range
    ++ raw_member (codes ",\"snippet\":") diag.snippet
    ++ codes "}"

-- A diagnostic of a step or a provisioner that may be absent.
abbrev pub diag_member : (front : List ℕ) → Option Diag → List ℕ
diag_member front None = []
diag_member front (Some diag) = diag_text front None diag

-- What stands before the summary of a diagnostic of no step.
abbrev pub severity_front : Severity → List ℕ
severity_front Error = codes "{\"severity\":\"error\","
severity_front Warning = codes "{\"severity\":\"warning\","

-- A diagnostic of no step.
abbrev pub note_text : Note → List ℕ
note_text note = diag_text (severity_front note.severity) note.address note.diag

-- The diagnostics of no step.
abbrev pub notes_text : List Note → List ℕ
notes_text notes = list_text (codes ",\"diagnostics\":[") (codes "]") false (map note_text notes)

-- ---- provisioners

-- A text that a provisioner prints. Only a text that comes before the provisioner's end has its own
-- time.
abbrev pub timed_text : (seconds : ℕ) → TimedText → List ℕ
timed_text seconds timed =
    if nat_le seconds timed.after then json_text timed.text
    else codes "{\"after\":" ++ decimal timed.after ++ codes ",\"text\":" ++ json_text timed.text ++ codes "}"

-- The texts that a provisioner prints.
abbrev pub printed_text : (seconds : ℕ) → List TimedText → List ℕ
printed_text seconds texts = list_text (codes ",\"output\":[") (codes "]") false (map (timed_text seconds) texts)

-- Whether the step goes on after a failure.
abbrev pub may_fail_text : Bool → List ℕ
may_fail_text may_fail = if may_fail then codes ",\"on_failure\":\"continue\"" else []

abbrev pub provisioner_text : Provisioner → List ℕ
provisioner_text provisioner =
    codes "{\"provisioner\":" ++ json_text provisioner.name
    ++ codes ",\"seconds\":" ++ decimal provisioner.seconds
    ++ printed_text provisioner.seconds provisioner.output
    ++ diag_member (codes ",\"failed\":{") provisioner.failed
    ++ may_fail_text provisioner.may_fail
    ++ codes "}"

abbrev pub provisioners_text : List Provisioner → List ℕ
provisioners_text provisioners = list_text (codes ",\"provisioners\":[") (codes "]") false (map provisioner_text provisioners)

-- ---- waits

-- The change, if it has the step.
abbrev pub with_step : (step : ℕ) → ResourceChange → Option ResourceChange
with_step step change = if nat_lt step (length change.steps) then Some change else None

-- The change of the step that is waited for; none if the plan does not have that step.
abbrev pub waited_change : List ResourceChange → Wait → Option ResourceChange
waited_change changes wait = option_and_then (with_step wait.step) (slice_get changes wait.change)

-- The number of a step, unless it is the last of its change.
abbrev pub number_text : (step : ℕ) → ResourceChange → List ℕ
number_text step change = if step + 1 == length change.steps then [] else codes ",\"step\":" ++ decimal step

abbrev pub wait_object_text : (step : ℕ) → ResourceChange → List ℕ
wait_object_text step change =
    codes "{\"address\":" ++ json_text change.address
    ++ text_member (codes ",\"deposed\":") change.deposed
    ++ number_text step change
    ++ codes "}"

-- A wait for a step: a text where the last step of a current object is meant.
abbrev pub waited_text : (step : ℕ) → ResourceChange → List ℕ
waited_text step change =
    if step + 1 == length change.steps && is_none change.deposed then json_text change.address
    else wait_object_text step change

abbrev pub wait_text : List ResourceChange → Wait → Option (List ℕ)
wait_text changes wait = option_map (waited_text wait.step) (waited_change changes wait)

-- The steps of the plan that a step waits for. Others are ignored.
abbrev pub waits_text : List ResourceChange → List Wait → List ℕ
waits_text changes waits = list_text (codes ",\"after\":[") (codes "]") false (filter_map (wait_text changes) waits)

-- ---- steps

-- How the provider ends a step.
abbrev pub ending_text : Ending → List ℕ
ending_text (Done id warning) = text_member (codes ",\"id\":") id ++ diag_member (codes ",\"warning\":{") warning
ending_text (Failed diag) = diag_text (codes ",\"failed\":{") None diag
ending_text (Warned diag) = diag_text (codes ",\"failed\":{\"severity\":\"warning\",") None diag

abbrev pub answered_text : List ResourceChange → Outcome → List ℕ
answered_text changes outcome =
    codes "{\"seconds\":" ++ decimal outcome.seconds
    ++ ending_text outcome.result
    ++ provisioners_text outcome.provisioners
    ++ waits_text changes outcome.after
    ++ codes "}"

abbrev pub step_text : List ResourceChange → ScriptStep → List ℕ
step_text changes (Answered outcome) = answered_text changes outcome
step_text changes (Skipped after) = codes "{\"skipped\":true" ++ waits_text changes after ++ codes "}"

abbrev pub steps_text : List ResourceChange → List ScriptStep → List ℕ
steps_text changes steps = list_text (codes ",\"steps\":[") (codes "]") false (map (step_text changes) steps)

-- ---- entries

-- The entry of a change with these steps.
abbrev pub entry_text : List ResourceChange → ResourceChange → List ScriptStep → List ℕ
entry_text changes change steps =
    codes "{\"address\":" ++ json_text change.address
    ++ text_member (codes ",\"deposed\":") change.deposed
    ++ steps_text changes steps
    ++ codes "}"

-- The steps, if there are some.
abbrev pub unless_no_steps : List ScriptStep → Option (List ScriptStep)
unless_no_steps [] = None
unless_no_steps (step ∷ steps) = Some (step ∷ steps)

-- The steps that the script states for the change of this number; none where it states no step.
abbrev pub entry_steps : OutcomeMap → (number : ℕ) → Option (List ScriptStep)
entry_steps script number = option_and_then unless_no_steps (stated_steps script number)

-- The entry of a change, if its steps are stated, before other entries.
abbrev pub entry_before : List ResourceChange → ResourceChange → Option (List ScriptStep) → List (List ℕ) → List (List ℕ)
entry_before changes change None entries = entries
entry_before changes change (Some steps) entries = entry_text changes change steps ∷ entries

-- The entries of the changes `left`, of which the first has this number.
abbrev pub entry_texts : List ResourceChange → OutcomeMap → (number : ℕ) → (left : List ResourceChange) → List (List ℕ)
entry_texts changes script number [] = []
entry_texts changes script number (change ∷ left) =
    entry_before changes change (entry_steps script number) (entry_texts changes script (number + 1) left)

abbrev pub entries_text : List ResourceChange → OutcomeMap → List ℕ
entries_text changes script = list_text [] [] false (entry_texts changes script 0 changes)

-- ---- outputs

abbrev pub output_text : Output → List ℕ
output_text output =
    json_text output.name
    ++ codes ":{\"sensitive\":" ++ flag_text output.is_sensitive
    ++ codes ",\"type\":" ++ output.type_json
    ++ raw_member (codes ",\"value\":") output.value_json
    ++ codes "}"

abbrev pub outputs_text : List Output → List ℕ
outputs_text outputs = list_text (codes ",\"outputs\":{") (codes "}") false (map output_text outputs)

-- ---- the script

-- The script of a plan with these changes, on one line.
abbrev pub script_text : List ResourceChange → OutcomeMap → List Output → List Note → List ℕ
script_text changes script outputs notes =
    codes "{\"changes\":[" ++ entries_text changes script ++ codes "]"
    ++ outputs_text outputs
    ++ notes_text notes
    ++ codes "}\n"

-- The text, unless it is larger than a run takes.
abbrev pub script_within : List ResourceChange → OutcomeMap → List Output → List Note → Result (List ℕ) ScriptFault
script_within changes script outputs notes =
    if nat_lt max_bytes (length (script_text changes script outputs notes)) then Err TooLarge
    else Ok (script_text changes script outputs notes)
