-- The members of the values of a script as slots store them, for private types.
use Rattle.std.specs.Prelude.{◌≡◌, ℕ, List, [], codes, map, Bool, true, false, if◌then◌else◌, Option, Some, None, option_map, String, string_bytes}
use Rattle.std.specs.Str.{bytes_eq}
use Rattle.std.specs.declared.alloc.Global.{Global}
use Rattle.serde_json.specs.Data.{Data, Members}
use Rattle.serde_json.specs.Find.{as_array, get_member}
use Rattle.apply_model.specs.declared.script.diag.Diag.{Diag}
use Rattle.apply_model.specs.declared.script.ending.Ending.{Ending}
use Rattle.apply_model.specs.declared.script.outcome.Outcome.{Outcome}
use Rattle.apply_model.specs.declared.script.provisioner.Provisioner.{Provisioner}
use Rattle.apply_json.specs.ShallowView.{ShallowView, absent, truth, number, text, an_array, an_object, shallow_view, shallow_of, shallow_text, shallow_text_or, shallow_whole}
use Rattle.apply_json.specs.Tree.{◌>>=◌, list_of, unless_empty, unless_null}
use Rattle.apply_plan.specs.declared.script.diag_slots.DiagSlots.{DiagSlots}
use Rattle.apply_plan.specs.declared.script.entry_slots.EntrySlots.{EntrySlots}
use Rattle.apply_plan.specs.declared.script.provisioner_slots.ProvisionerSlots.{ProvisionerSlots}
use Rattle.apply_plan.specs.declared.script.output_slots.OutputSlots.{OutputSlots}
use Rattle.apply_plan.specs.declared.script.step_slots.StepSlots.{StepSlots}
use Rattle.apply_plan.specs.declared.script.raw_failure.RawFailure.{RawFailure}
use Rattle.apply_plan.specs.declared.script.wait_slots.WaitSlots.{WaitSlots}
use Rattle.apply_plan.specs.Script.Entry.{Entry, EntryStep, Failure, OutputItem, WaitName, all_some, answered_with, diag_or_none, each_of, ending_from, failure_or_none, object_or_none, output_from, provisioner_from, skipped_with, step_from, timed_outputs, wait_from}
use Rattle.apply_plan.specs.Script.OutputView.{outputs_view}
use Rattle.apply_plan.specs.Script.RawView.{entry_step_view, failure_view, provisioner_view, waits_view}

-- ---- members that are no scalars; `null` counts as absent

abbrev pub diag_member : Option Data → Option (Option Diag)
diag_member input = diag_or_none (input >>= unless_null)

abbrev pub failure_member : Option Data → Option (Option Failure)
failure_member input = failure_or_none (input >>= unless_null)

-- an object as raw JSON text
abbrev pub object_member : Option Data → Option (Option (List ℕ))
object_member input = object_or_none (input >>= unless_null)

abbrev pub each_member : {A : Type 0} → (Data → Option A) → Option Data → Option (List A)
each_member part input = each_of part (input >>= unless_null)

-- the items of an array that must not be absent
abbrev pub needed_member : {A : Type 0} → (Data → Option A) → Option Data → Option (List A)
needed_member part input = do
  list ← input >>= unless_null
  items ← as_array list
  all_some (map part (list_of items))

abbrev pub steps_member : Option Data → Option (List EntryStep)
steps_member input = needed_member step_from input

-- ---- the slots hold what the members state

abbrev pub text_view : Option (Option (String Global)) → Option (Option (List ℕ))
text_view input = option_map (λ text. option_map string_bytes text) input

pub record HoldsDiag (slots : DiagSlots) (ms : Members) : Type 0 where
  pub summary : shallow_view slots.summary ≡ shallow_of (get_member (codes "summary") ms)
  pub detail : shallow_view slots.detail ≡ shallow_of (get_member (codes "detail") ms)
  pub range : text_view slots.range ≡ object_member (get_member (codes "range") ms)
  pub snippet : text_view slots.snippet ≡ object_member (get_member (codes "snippet") ms)
  pub severity : shallow_view slots.severity ≡ shallow_of (get_member (codes "severity") ms)

pub record HoldsWait (slots : WaitSlots) (ms : Members) : Type 0 where
  pub address : shallow_view slots.address ≡ shallow_of (get_member (codes "address") ms)
  pub deposed : shallow_view slots.deposed ≡ shallow_of (get_member (codes "deposed") ms)
  pub step : shallow_view slots.step ≡ shallow_of (get_member (codes "step") ms)

pub record HoldsOutput (slots : OutputSlots) (ms : Members) : Type 0 where
  pub after : shallow_view slots.after ≡ shallow_of (get_member (codes "after") ms)
  pub text : shallow_view slots.text ≡ shallow_of (get_member (codes "text") ms)

abbrev pub failure_option_view : Option (Option RawFailure) → Option (Option Failure)
failure_option_view input = option_map (λ failure. option_map failure_view failure) input

pub record HoldsProvisioner (slots : ProvisionerSlots) (ms : Members) : Type 0 where
  pub name : shallow_view slots.name ≡ shallow_of (get_member (codes "provisioner") ms)
  pub seconds : shallow_view slots.seconds ≡ shallow_of (get_member (codes "seconds") ms)
  pub failed : slots.failed ≡ diag_member (get_member (codes "failed") ms)
  pub output : option_map (λ outputs. outputs_view outputs.items) slots.output ≡ each_member output_from (get_member (codes "output") ms)
  pub on_failure : shallow_view slots.on_failure ≡ shallow_of (get_member (codes "on_failure") ms)

pub record HoldsStep (slots : StepSlots) (ms : Members) : Type 0 where
  pub skipped : shallow_view slots.skipped ≡ shallow_of (get_member (codes "skipped") ms)
  pub seconds : shallow_view slots.seconds ≡ shallow_of (get_member (codes "seconds") ms)
  pub id : shallow_view slots.id ≡ shallow_of (get_member (codes "id") ms)
  pub warning : slots.warning ≡ diag_member (get_member (codes "warning") ms)
  pub failed : failure_option_view slots.failed ≡ failure_member (get_member (codes "failed") ms)
  pub provisioners : option_map (λ input. map provisioner_view input.items) slots.provisioners
      ≡ each_member provisioner_from (get_member (codes "provisioners") ms)
  pub after : option_map (λ waits. waits_view waits.items) slots.after ≡ each_member wait_from (get_member (codes "after") ms)

pub record HoldsEntry (slots : EntrySlots) (ms : Members) : Type 0 where
  pub address : shallow_view slots.address ≡ shallow_of (get_member (codes "address") ms)
  pub deposed : shallow_view slots.deposed ≡ shallow_of (get_member (codes "deposed") ms)
  pub steps : option_map (λ steps. map entry_step_view steps.items) slots.steps ≡ steps_member (get_member (codes "steps") ms)

-- ---- what is read from the slots; none if a member is invalid or missing

abbrev pub diag_read : DiagSlots → Option Diag
diag_read slots = do
  summary ← shallow_text (shallow_view slots.summary)
  detail ← shallow_text_or [] (shallow_view slots.detail)
  range ← text_view slots.range
  snippet ← text_view slots.snippet
  Some (record { summary = summary; detail = detail; range = range; snippet = snippet })

-- the flag of a word: `set` or `unset`
abbrev pub flag_by : (set unset : List ℕ) → List ℕ → Option Bool
flag_by set unset word = if bytes_eq word set then Some true else if bytes_eq word unset then Some false else None

-- the flag of a word that may be absent, which is then false
abbrev pub word_flag_read : (set unset : List ℕ) → ShallowView → Option Bool
word_flag_read set unset absent = Some false
word_flag_read set unset (truth b) = None
word_flag_read set unset (number n) = None
word_flag_read set unset (text s) = flag_by set unset s
word_flag_read set unset an_array = None
word_flag_read set unset an_object = None

-- whether a failure is only a warning, by its `severity`
abbrev pub only_warns_read : ShallowView → Option Bool
only_warns_read input = word_flag_read (codes "warning") (codes "error") input

abbrev pub failure_read : DiagSlots → Option Failure
failure_read slots = do
  diag ← diag_read slots
  only_warns ← only_warns_read (shallow_view slots.severity)
  Some (record { diag = diag; only_warns = only_warns })

abbrev pub number_read : ShallowView → Option (Option ℕ)
number_read absent = Some None
number_read (truth b) = None
number_read (number n) = option_map Some (shallow_whole (number n))
number_read (text s) = None
number_read an_array = None
number_read an_object = None

abbrev pub wait_read : WaitSlots → Option WaitName
wait_read slots = do
  address ← shallow_text (shallow_view slots.address)
  deposed ← shallow_text_or [] (shallow_view slots.deposed)
  step ← number_read (shallow_view slots.step)
  Some (record { address = address; deposed = unless_empty deposed; step = step })

abbrev pub output_read : OutputSlots → Option OutputItem
output_read slots = do
  told ← shallow_text (shallow_view slots.text)
  after ← number_read (shallow_view slots.after)
  Some (record { after = after; text = told })

-- whether a provisioner may fail, by its `on_failure`
abbrev pub may_fail_read : ShallowView → Option Bool
may_fail_read input = word_flag_read (codes "continue") (codes "fail") input

abbrev pub provisioner_read : ProvisionerSlots → Option Provisioner
provisioner_read slots = do
  name ← shallow_text (shallow_view slots.name) >>= unless_empty
  seconds ← shallow_whole (shallow_view slots.seconds)
  failed ← slots.failed
  items ← option_map (λ outputs. outputs_view outputs.items) slots.output
  output ← timed_outputs seconds items
  may_fail ← may_fail_read (shallow_view slots.on_failure)
  Some (record { name = name; seconds = seconds; output = output; failed = failed; may_fail = may_fail })

abbrev pub ending_read : ShallowView → (warning : Option (Option Diag)) → (failed : Option (Option RawFailure)) → Option Ending
ending_read id warning failed = do
  id ← shallow_text_or [] id
  warning ← warning
  failed ← failure_option_view failed
  ending_from (unless_empty id) warning failed

-- a flag that may be absent, which is then false
abbrev pub flag_read : ShallowView → Option Bool
flag_read absent = Some false
flag_read (truth b) = Some b
flag_read (number n) = None
flag_read (text s) = None
flag_read an_array = None
flag_read an_object = None

-- whether the member is present
abbrev pub is_present : ShallowView → Bool
is_present absent = false
is_present (truth b) = true
is_present (number n) = true
is_present (text s) = true
is_present an_array = true
is_present an_object = true

-- the outcome of a step, by its parts
abbrev pub outcome_read : (skipped : Bool) → (seconds : ShallowView) → Ending → List Provisioner → Option (Option Outcome)
outcome_read skipped seconds result provisioners =
    if skipped then skipped_with (is_present seconds) result provisioners else answered_with (shallow_whole seconds) result provisioners

-- the outcome of a step, by parts that may be invalid
abbrev pub outcome_by : (skipped : Option Bool) → (seconds : ShallowView) → Option Ending → Option (List Provisioner) → Option (Option Outcome)
outcome_by skipped seconds result provisioners = do
  skipped ← skipped
  result ← result
  provisioners ← provisioners
  outcome_read skipped seconds result provisioners

abbrev pub step_read : StepSlots → Option EntryStep
step_read slots = do
  skipped ← flag_read (shallow_view slots.skipped)
  result ← ending_read (shallow_view slots.id) slots.warning slots.failed
  provisioners ← option_map (λ input. map provisioner_view input.items) slots.provisioners
  after ← option_map (λ waits. waits_view waits.items) slots.after
  outcome ← outcome_read skipped (shallow_view slots.seconds) result provisioners
  Some (record { outcome = outcome; after = after })

abbrev pub entry_read : EntrySlots → Option Entry
entry_read slots = do
  address ← shallow_text (shallow_view slots.address)
  deposed ← shallow_text_or [] (shallow_view slots.deposed)
  steps ← option_map (λ steps. map entry_step_view steps.items) slots.steps
  Some (record { address = address; deposed = unless_empty deposed; steps = steps })
