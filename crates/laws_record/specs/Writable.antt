-- Scripts that may be written: a run reads them back.
use Rattle.std.specs.Prelude.{◌≡◌, ◌≢◌, ◌≤◌, ◌<◌, ◌+◌, ℕ, List, [], ◌∷◌, true, false, ◌||◌, is_some, IfSome, IsUtf8, Option, Some, None, length, map, sum_by, ⊤}
use Rattle.std.specs.List.{AllByRecursion, enumerate_from, list_any, range_with_len, zip}
use Rattle.json.specs.Json.{Json}
use Rattle.json.specs.Tree.{HasNumbers, depth}
use Rattle.serde_json.specs.Data.{Data}
use Rattle.serde_json.specs.Read.{of_json}
use Rattle.apply_json.specs.Verbatim.{verbatim}
use Rattle.apply_model.specs.declared.details.note.Note.{Note}
use Rattle.apply_model.specs.declared.script.diag.Diag.{Diag}
use Rattle.apply_model.specs.declared.script.ending.Ending.{Ending}
use Rattle.apply_model.specs.declared.script.ending.Ending.TheVariants.{Done, Failed, Warned}
use Rattle.apply_model.specs.declared.script.outcome.Outcome.{Outcome}
use Rattle.apply_model.specs.declared.script.provisioner.Provisioner.{Provisioner}
use Rattle.apply_model.specs.declared.script.script_step.ScriptStep.{ScriptStep}
use Rattle.apply_model.specs.declared.script.script_step.ScriptStep.TheVariants.{Answered, Skipped}
use Rattle.apply_model.specs.declared.script.timed_text.TimedText.{TimedText}
use Rattle.apply_model.specs.declared.script.wait.Wait.{Wait}
use Rattle.apply_model.specs.Plan.ResourceChange.{ResourceChange}
use Rattle.apply_model.specs.Script.Limits.{max_waits}
use Rattle.apply_model.specs.Script.Outcome.{IsBounded, are_in_time, is_failed, is_warned}
use Rattle.apply_model.specs.Script.OutcomeMap.{OutcomeMap}
use Rattle.apply_model.specs.Script.Step.{after_of, answer_to}
use Rattle.apply_model.specs.Script.Waits.{could_begin}
use Rattle.apply_plan.specs.Script.Entry.{is_object_text}
use Rattle.apply_plan.specs.Script.Refusals.{misplaces_provisioners, warns_not_a_read}
use Rattle.stream_record.specs.declared.output.Output.{Output}
use Rattle.stream_record.specs.ScriptText.{entry_steps, waited_change}

-- ---- JSON texts

-- The text is that of a JSON value without blanks, which nests at most so deep. Its numbers are
-- in range.
pub record IsJsonText (most : ℕ) (text : List ℕ) : Type 0 where
  pub json : Json
  pub text_is : text ≡ verbatim json
  pub utf8 : IsUtf8 text
  pub numbers : HasNumbers json
  pub shallow : depth json ≤ most
  pub tree : Data
  pub tree_is : of_json json ≡ Some tree

-- The value is an object.
pub record IsObjectText (most : ℕ) (text : List ℕ) : Type 0 where
  pub json_text : IsJsonText most text
  pub object : is_object_text text ≡ true

-- How deep a range or a snippet may nest: in the diagnostic of a step, and in that of a
-- provisioner. The whole script then nests at most 127 deep.
abbrev pub depth_in_step : ℕ
depth_in_step = 121

abbrev pub depth_in_provisioner : ℕ
depth_in_provisioner = 119

-- And in a diagnostic of no step, or an output.
abbrev pub depth_at_top : ℕ
depth_at_top = 124

-- ---- parts of an outcome

-- The text is UTF-8, and not empty.
pub record IsFilled (text : List ℕ) : Type 0 where
  pub utf8 : IsUtf8 text
  pub filled : text ≢ []

pub record IsWritableDiag (most : ℕ) (diag : Diag) : Type 0 where
  pub summary : IsUtf8 diag.summary
  pub detail : IsUtf8 diag.detail
  pub range : IfSome diag.range (IsObjectText most)
  pub snippet : IfSome diag.snippet (IsObjectText most)

-- The texts come in time: their times never fall, and the last is not after the end.
pub record IsWritableProvisioner (provisioner : Provisioner) : Type 0 where
  pub name : IsFilled provisioner.name
  pub output : AllByRecursion (λ (timed : TimedText). IsUtf8 timed.text) provisioner.output
  pub in_time : are_in_time 0 provisioner.seconds provisioner.output ≡ true
  pub failed : IfSome provisioner.failed (IsWritableDiag depth_in_provisioner)

abbrev pub IsWritableEnding : Ending → Type 0
IsWritableEnding (Done id warning) = IfSome id IsFilled × IfSome warning (IsWritableDiag depth_in_step)
IsWritableEnding (Failed diag) = IsWritableDiag depth_in_step diag
IsWritableEnding (Warned diag) = IsWritableDiag depth_in_step diag

-- The outcome is within the limits. A step whose provider fails has no provisioners.
pub record IsWritableOutcome (outcome : Outcome) : Type 0 where
  pub bounded : IsBounded outcome
  pub ending : IsWritableEnding outcome.result
  pub provisioners : AllByRecursion IsWritableProvisioner outcome.provisioners
  pub alone : (is_failed outcome.result || is_warned outcome.result) ≡ true → outcome.provisioners ≡ []

-- ---- changes

-- A change of a plan: its address and its deposed key are UTF-8, and it has at most two steps.
pub record IsWritableChange (change : ResourceChange) : Type 0 where
  pub address : IsUtf8 change.address
  pub deposed : IfSome change.deposed IsFilled
  pub few : length change.steps ≤ 2

-- No change has the address and the deposed key of an earlier change.
abbrev pub NamesEachObjectOnce : List ResourceChange → Type 0
NamesEachObjectOnce [] = ⊤
NamesEachObjectOnce (change ∷ later) =
    AllByRecursion (λ (other : ResourceChange). ¬ ((other.address ≡ change.address) × (other.deposed ≡ change.deposed))) later
    × NamesEachObjectOnce later

-- ---- steps

abbrev pub IsWritableStep : ScriptStep → Type 0
IsWritableStep (Answered outcome) = IsWritableOutcome outcome
IsWritableStep (Skipped after) = ⊤

-- The plan has the step that is waited for.
abbrev pub HasStep : List ResourceChange → Wait → Type 0
HasStep changes wait = is_some (waited_change changes wait) ≡ true

-- ---- entries

-- What the text of a script states: for each change the steps of its entry.
abbrev pub written : List ResourceChange → OutcomeMap → OutcomeMap
written changes script = map (entry_steps script) (range_with_len 0 (length changes))

-- A change has stated steps or none: no list of steps is empty.
abbrev pub NoneIsEmpty : OutcomeMap → Type 0
NoneIsEmpty script = AllByRecursion (λ (stated : Option (List ScriptStep)). stated ≢ Some []) script

-- The steps of the entry of change n: at most as many as the change has. Provisioners and warnings
-- stand where a run takes them, the plan has each step that is waited for, and each step could
-- begin.
pub record IsWritableEntry (changes : List ResourceChange) (script : OutcomeMap) (n : ℕ) (change : ResourceChange) (steps : List ScriptStep) : Type 0 where
  pub few : length steps ≤ length change.steps
  pub each : AllByRecursion IsWritableStep steps
  pub provisioned : list_any (misplaces_provisioners (is_some change.deposed)) (zip (enumerate_from 0 change.steps) (map answer_to steps)) ≡ false
  pub warned : list_any warns_not_a_read (zip (enumerate_from 0 change.steps) (map answer_to steps)) ≡ false
  pub waits : AllByRecursion (λ step. AllByRecursion (HasStep changes) (after_of step)) steps
  pub begins : (k : ℕ) → k < length steps → could_begin (written changes script) n k ≡ true

-- The entries of the changes `left`, of which the first has the number n.
abbrev pub AreWritableEntries : List ResourceChange → OutcomeMap → (n : ℕ) → (left : List ResourceChange) → Type 0
AreWritableEntries changes script n [] = ⊤
AreWritableEntries changes script n (change ∷ left) =
    IfSome (entry_steps script n) (IsWritableEntry changes script n change) × AreWritableEntries changes script (n + 1) left

-- How many waits some steps have.
abbrev pub waits_in_steps : List ScriptStep → ℕ
waits_in_steps steps = sum_by (λ step. length (after_of step)) steps

-- How many waits the entry of a change has, if it has an entry.
abbrev pub waits_in : Option (List ScriptStep) → ℕ
waits_in None = 0
waits_in (Some steps) = waits_in_steps steps

-- A script of these changes may be written. All its waits together are few.
pub record IsWritable (changes : List ResourceChange) (script : OutcomeMap) : Type 0 where
  pub each : AllByRecursion IsWritableChange changes
  pub once : NamesEachObjectOnce changes
  pub entries : AreWritableEntries changes script 0 changes
  pub few_waits : sum_by waits_in (written changes script) ≤ max_waits

-- ---- outputs and notes

-- The name, the type and the value of an output. They nest at most 124 deep.
pub record IsWritableOutput (output : Output) : Type 0 where
  pub name : IsUtf8 output.name
  pub type_json : IsJsonText depth_at_top output.type_json
  pub value_json : IfSome output.value_json (IsJsonText depth_at_top)

-- A diagnostic of no step.
pub record IsWritableNote (note : Note) : Type 0 where
  pub diag : IsWritableDiag depth_at_top note.diag
  pub address : IfSome note.address IsFilled
