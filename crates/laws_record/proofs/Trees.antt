-- The tree of a script.
use Rattle.std.proofs.Common.{ℕ, ◌+◌, List, [], ◌∷◌, Bool, true, false, cond, Option, Some, None, map, option_map}
use Rattle.std.specs.Prelude.{codes, filter_map, ◌==◌, ◌&&◌, is_none, length, nat_le}
use Rattle.serde_json.specs.Data.{Data, boolean, number, string, unsigned}
use Rattle.apply_json.specs.Tree.{unless_empty}
use Rattle.apply_model.specs.declared.details.note.Note.{Note}
use Rattle.apply_model.specs.declared.details.note.Severity.{Severity}
use Rattle.apply_model.specs.declared.details.note.Severity.TheVariants.{Error, Warning}
use Rattle.apply_model.specs.declared.script.diag.Diag.{Diag}
use Rattle.apply_model.specs.declared.script.ending.Ending.{Ending}
use Rattle.apply_model.specs.declared.script.ending.Ending.TheVariants.{Done, Failed, Warned}
use Rattle.apply_model.specs.declared.script.outcome.Outcome.{Outcome}
use Rattle.apply_model.specs.declared.script.provisioner.Provisioner.{Provisioner}
use Rattle.apply_model.specs.declared.script.script_step.ScriptStep.{ScriptStep}
use Rattle.apply_model.specs.declared.script.script_step.ScriptStep.TheVariants.{Answered, Skipped}
use Rattle.apply_model.specs.declared.script.timed_text.TimedText.{TimedText}
use Rattle.apply_model.specs.declared.script.wait.Wait.{Wait}
use Rattle.apply_model.specs.Plan.ResourceChange.{ResourceChange}
use Rattle.apply_model.specs.Script.OutcomeMap.{OutcomeMap}
use Rattle.stream_record.specs.ScriptText.{entry_steps, waited_change}
use Rattle.laws_record.proofs.Lists.{array_unless_empty}
use Rattle.laws_record.proofs.Values.{Field, object_with}

-- ---- diagnostics

-- the members after the summary
abbrev pub after_summary : (address : Option (List ℕ)) → Diag → List Field
after_summary address diag =
    (codes "detail", option_map string (unless_empty diag.detail))
    ∷ (codes "address", option_map string address)
    ∷ (codes "range", option_map string diag.range)
    ∷ (codes "snippet", option_map string diag.snippet) ∷ []

abbrev pub diag_fields : (address : Option (List ℕ)) → Diag → List Field
diag_fields address diag = (codes "summary", Some (string diag.summary)) ∷ after_summary address diag

-- a diagnostic with its severity
abbrev pub severe_fields : (severity : List ℕ) → (address : Option (List ℕ)) → Diag → List Field
severe_fields severity address diag = (codes "severity", Some (string severity)) ∷ diag_fields address diag

abbrev pub diag_tree : Diag → Data
diag_tree diag = object_with (diag_fields None diag)

abbrev pub warned_tree : Diag → Data
warned_tree diag = object_with (severe_fields (codes "warning") None diag)

-- ---- provisioners

abbrev pub timed_fields : TimedText → List Field
timed_fields timed = (codes "after", Some (number (unsigned timed.after))) ∷ (codes "text", Some (string timed.text)) ∷ []

abbrev pub timed_tree : (seconds : ℕ) → TimedText → Data
timed_tree seconds timed = cond (nat_le seconds timed.after) (string timed.text) (object_with (timed_fields timed))

abbrev pub may_fail_tree : Bool → Option Data
may_fail_tree true = Some (string (codes "continue"))
may_fail_tree false = None

abbrev pub provisioner_fields : Provisioner → List Field
provisioner_fields provisioner =
    (codes "provisioner", Some (string provisioner.name))
    ∷ (codes "seconds", Some (number (unsigned provisioner.seconds)))
    ∷ (codes "output", array_unless_empty (map (timed_tree provisioner.seconds) provisioner.output))
    ∷ (codes "failed", option_map diag_tree provisioner.failed)
    ∷ (codes "on_failure", may_fail_tree provisioner.may_fail) ∷ []

abbrev pub provisioner_tree : Provisioner → Data
provisioner_tree provisioner = object_with (provisioner_fields provisioner)

-- ---- waits

abbrev pub step_number : (step : ℕ) → ResourceChange → Option Data
step_number step change = cond (step + 1 == length change.steps) None (Some (number (unsigned step)))

abbrev pub wait_fields : (step : ℕ) → ResourceChange → List Field
wait_fields step change =
    (codes "address", Some (string change.address))
    ∷ (codes "deposed", option_map string change.deposed)
    ∷ (codes "step", step_number step change) ∷ []

abbrev pub waited_tree : (step : ℕ) → ResourceChange → Data
waited_tree step change =
    cond (step + 1 == length change.steps && is_none change.deposed) (string change.address) (object_with (wait_fields step change))

abbrev pub wait_tree : List ResourceChange → Wait → Option Data
wait_tree changes wait = option_map (waited_tree wait.step) (waited_change changes wait)

abbrev pub waits_tree : List ResourceChange → List Wait → Option Data
waits_tree changes waits = array_unless_empty (filter_map (wait_tree changes) waits)

-- ---- steps

abbrev pub id_tree : Ending → Option Data
id_tree (Done id warning) = option_map string id
id_tree (Failed diag) = None
id_tree (Warned diag) = None

abbrev pub warning_tree : Ending → Option Data
warning_tree (Done id warning) = option_map diag_tree warning
warning_tree (Failed diag) = None
warning_tree (Warned diag) = None

abbrev pub failed_tree : Ending → Option Data
failed_tree (Done id warning) = None
failed_tree (Failed diag) = Some (diag_tree diag)
failed_tree (Warned diag) = Some (warned_tree diag)

abbrev pub answered_fields : List ResourceChange → Outcome → List Field
answered_fields changes outcome =
    (codes "seconds", Some (number (unsigned outcome.seconds)))
    ∷ (codes "id", id_tree outcome.result)
    ∷ (codes "warning", warning_tree outcome.result)
    ∷ (codes "failed", failed_tree outcome.result)
    ∷ (codes "provisioners", array_unless_empty (map provisioner_tree outcome.provisioners))
    ∷ (codes "after", waits_tree changes outcome.after) ∷ []

abbrev pub skipped_fields : List ResourceChange → List Wait → List Field
skipped_fields changes waits = (codes "skipped", Some (boolean true)) ∷ (codes "after", waits_tree changes waits) ∷ []

abbrev pub step_tree : List ResourceChange → ScriptStep → Data
step_tree changes (Answered outcome) = object_with (answered_fields changes outcome)
step_tree changes (Skipped waits) = object_with (skipped_fields changes waits)

-- ---- entries

abbrev pub entry_fields : List ResourceChange → ResourceChange → List ScriptStep → List Field
entry_fields changes change steps =
    (codes "address", Some (string change.address))
    ∷ (codes "deposed", option_map string change.deposed)
    ∷ (codes "steps", array_unless_empty (map (step_tree changes) steps)) ∷ []

abbrev pub entry_tree : List ResourceChange → ResourceChange → List ScriptStep → Data
entry_tree changes change steps = object_with (entry_fields changes change steps)

abbrev pub tree_before : List ResourceChange → ResourceChange → Option (List ScriptStep) → List Data → List Data
tree_before changes change None entries = entries
tree_before changes change (Some steps) entries = entry_tree changes change steps ∷ entries

-- the entries of the changes `left`, of which the first has this number
abbrev pub entry_trees : List ResourceChange → OutcomeMap → (number : ℕ) → (left : List ResourceChange) → List Data
entry_trees changes script n [] = []
entry_trees changes script n (change ∷ left) =
    tree_before changes change (entry_steps script n) (entry_trees changes script (n + 1) left)

-- ---- outputs and notes

abbrev pub severity_word : Severity → List ℕ
severity_word Error = codes "error"
severity_word Warning = codes "warning"

abbrev pub note_tree : Note → Data
note_tree note = object_with (severe_fields (severity_word note.severity) note.address note.diag)
