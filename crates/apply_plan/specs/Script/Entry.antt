-- An entry of a script, and the rule of each of its members (the script's own format).
use Rattle.std.specs.Prelude.{ℕ, List, [], ◌∷◌, codes, length, map, Bool, true, false, not, ◌&&◌, ◌||◌, ◌==◌, nat_lt, slice_index, if◌then◌else◌, Option, Some, None, is_some, option_map, unwrap_or}
use Rattle.std.specs.Option.{option_map_or}
use Rattle.std.specs.Str.{bytes_eq}
use Rattle.serde_json.specs.Data.{Data}
use Rattle.serde_json.specs.Find.{as_array, as_bool, as_number, as_str, as_u64}
use Rattle.apply_model.specs.declared.script.diag.Diag.{Diag}
use Rattle.apply_model.specs.declared.script.ending.Ending.{Ending}
use Rattle.apply_model.specs.declared.script.ending.Ending.TheVariants.{Done, Failed, Warned}
use Rattle.apply_model.specs.declared.script.outcome.Outcome.{Outcome}
use Rattle.apply_model.specs.declared.script.provisioner.Provisioner.{Provisioner}
use Rattle.apply_model.specs.declared.script.timed_text.TimedText.{TimedText}
use Rattle.apply_model.specs.Script.Outcome.{are_in_time, is_failed, is_warned}
use Rattle.apply_json.specs.Tree.{◌>>=◌, unless_empty, items_or_empty, list_of, member_of, non_empty_text_of, text_of, text_or}

-- an item of `after`: it names a step of the change with this address and deposed key, or none;
-- without a number it names the last step
pub record WaitName : Type 0 where
  pub address : List ℕ
  pub deposed : Option (List ℕ)
  pub step : Option ℕ

-- why the provider of a step fails, and whether the failure is only a warning
pub record Failure : Type 0 where
  pub diag : Diag
  pub only_warns : Bool

-- an item of `output`: a text, and after how many seconds it comes, if stated
pub record OutputItem : Type 0 where
  pub after : Option ℕ
  pub text : List ℕ

-- a step: its outcome, and the items that name the steps it waits for;
-- a skipped step has no outcome
pub record EntryStep : Type 0 where
  pub outcome : Option Outcome
  pub after : List WaitName

pub record Entry : Type 0 where
  pub address : List ℕ
  pub deposed : Option (List ℕ)
  pub steps : List EntryStep

-- ---- members that are read as raw JSON text

-- whether members of this name are read as raw JSON text, at any depth
abbrev pub is_verbatim_name : List ℕ → Bool
is_verbatim_name name = bytes_eq name (codes "range") || bytes_eq name (codes "snippet")

-- whether the raw text is that of an object: it starts with `{`
abbrev pub is_object_text : List ℕ → Bool
is_object_text text = slice_index text 0 == 123

-- the raw text of an object; `null` counts as absent
abbrev pub object_text : List ℕ → Option (Option (List ℕ))
object_text text = if bytes_eq text (codes "null") then Some None else if is_object_text text then Some (Some text) else None

-- an object that may be absent, as raw JSON text
abbrev pub object_or_none : Option Data → Option (Option (List ℕ))
object_or_none None = Some None
object_or_none (Some d) = as_str d >>= object_text

-- ---- the members

-- a diagnostic: a summary, a detail (empty if absent), and two objects that may be absent
abbrev pub diag_from : Data → Option Diag
diag_from d = do
  summary ← text_of (codes "summary") d
  detail ← text_or [] (member_of (codes "detail") d)
  range ← object_or_none (member_of (codes "range") d)
  snippet ← object_or_none (member_of (codes "snippet") d)
  Some (record { summary = summary; detail = detail; range = range; snippet = snippet })

-- a diagnostic that may be absent
abbrev pub diag_or_none : Option Data → Option (Option Diag)
diag_or_none None = Some None
diag_or_none (Some d) = option_map Some (diag_from d)

-- whether a failure is only a warning, by its `severity`
abbrev pub only_warns_by : List ℕ → Option Bool
only_warns_by word =
    if bytes_eq word (codes "warning") then Some true else if bytes_eq word (codes "error") then Some false else None

-- without a `severity`, a failure is an error
abbrev pub only_warns_or_not : Option Data → Option Bool
only_warns_or_not None = Some false
only_warns_or_not (Some d) = as_str d >>= only_warns_by

-- why the provider of a step fails: a diagnostic with a `severity`
abbrev pub failure_from : Data → Option Failure
failure_from d = do
  diag ← diag_from d
  only_warns ← only_warns_or_not (member_of (codes "severity") d)
  Some (record { diag = diag; only_warns = only_warns })

-- a failure that may be absent
abbrev pub failure_or_none : Option Data → Option (Option Failure)
failure_or_none None = Some None
failure_or_none (Some d) = option_map Some (failure_from d)

-- the seconds: a whole number that fits 64 bits
abbrev pub seconds_of : Data → Option ℕ
seconds_of d = member_of (codes "seconds") d >>= as_number >>= as_u64

-- the ending of a step whose provider fails
abbrev pub ending_by : Failure → Ending
ending_by failure = if failure.only_warns then Warned failure.diag else Failed failure.diag

-- the ending of a step, by its id, its warning and its failure; a failure excludes the other two
abbrev pub ending_from : (id : Option (List ℕ)) → (warning : Option Diag) → (failed : Option Failure) → Option Ending
ending_from id warning None = Some (Done id warning)
ending_from None None (Some failure) = Some (ending_by failure)
ending_from None (Some warning) (Some failure) = None
ending_from (Some id) warning (Some failure) = None

unfoldable pub ending_of : Data → Option Ending
ending_of d = do
  id ← text_or [] (member_of (codes "id") d)
  warning ← diag_or_none (member_of (codes "warning") d)
  failed ← failure_or_none (member_of (codes "failed") d)
  ending_from (unless_empty id) warning failed

-- all values; none if one is missing
abbrev pub all_some : {A : Type 0} → List (Option A) → Option (List A)
all_some [] = Some []
all_some (input ∷ others) = do
  x ← input
  xs ← all_some others
  Some (x ∷ xs)

-- the items of an array, each as `part` reads it; an absent array is empty
abbrev pub each_of : {A : Type 0} → (Data → Option A) → Option Data → Option (List A)
each_of part input = do
  items ← items_or_empty input
  all_some (map part (list_of items))

-- a number that may be absent: a whole number that fits 64 bits
abbrev pub number_or_none : Option Data → Option (Option ℕ)
number_or_none None = Some None
number_or_none (Some d) = option_map Some (as_number d >>= as_u64)

-- an item of `output` that is an object
unfoldable pub output_of_members : Data → Option OutputItem
output_of_members d = do
  text ← text_of (codes "text") d
  after ← number_or_none (member_of (codes "after") d)
  Some (record { after = after; text = text })

-- an item of `output`; a plain text comes when its provisioner ends
abbrev pub output_from : Data → Option OutputItem
output_from d = option_map_or (λ text. Some (record { after = None; text = text })) (as_str d) (output_of_members d)

-- an output of a provisioner; without seconds of its own it comes after those of the provisioner
abbrev pub timed : (seconds : ℕ) → OutputItem → TimedText
timed seconds item = record { after = unwrap_or item.after seconds; text = item.text }

-- the outputs of a provisioner; none if one does not come in time
abbrev pub timed_outputs : (seconds : ℕ) → List OutputItem → Option (List TimedText)
timed_outputs seconds items =
    if are_in_time 0 seconds (map (timed seconds) items) then Some (map (timed seconds) items) else None

-- whether a provisioner may fail, by its `on_failure`
abbrev pub may_fail_by : List ℕ → Option Bool
may_fail_by word =
    if bytes_eq word (codes "continue") then Some true else if bytes_eq word (codes "fail") then Some false else None

-- without an `on_failure`, a provisioner may not fail
abbrev pub may_fail_or_not : Option Data → Option Bool
may_fail_or_not None = Some false
may_fail_or_not (Some d) = as_str d >>= may_fail_by

-- a provisioner: its name, its seconds, its failure, its outputs, and whether it may fail
unfoldable pub provisioner_from : Data → Option Provisioner
provisioner_from d = do
  name ← non_empty_text_of (codes "provisioner") d
  seconds ← seconds_of d
  failed ← diag_or_none (member_of (codes "failed") d)
  items ← each_of output_from (member_of (codes "output") d)
  output ← timed_outputs seconds items
  may_fail ← may_fail_or_not (member_of (codes "on_failure") d)
  Some (record { name = name; seconds = seconds; output = output; failed = failed; may_fail = may_fail })

-- a step with its provisioners; none if its provider fails and it has some
abbrev pub with_provisioners : (seconds : ℕ) → Ending → List Provisioner → Option Outcome
with_provisioners seconds result provisioners =
    if (is_failed result || is_warned result) && nat_lt 0 (length provisioners)
    then None
    else Some (record { seconds = seconds; provisioners = provisioners; result = result; after = [] })

-- an item of `after` that is an object
unfoldable pub wait_of_members : Data → Option WaitName
wait_of_members d = do
  address ← text_of (codes "address") d
  deposed ← text_or [] (member_of (codes "deposed") d)
  step ← number_or_none (member_of (codes "step") d)
  Some (record { address = address; deposed = unless_empty deposed; step = step })

-- an item of `after`; a plain text is an address
abbrev pub wait_from : Data → Option WaitName
wait_from d =
    option_map_or (λ address. Some (record { address = address; deposed = None; step = None })) (as_str d)
    (wait_of_members d)

-- whether the ending has no id, warning or failure
abbrev pub is_bare : Ending → Bool
is_bare (Done None None) = true
is_bare (Done None (Some warning)) = false
is_bare (Done (Some id) warning) = false
is_bare (Failed diag) = false
is_bare (Warned diag) = false

-- a skipped step; none if it has seconds, an ending or provisioners
abbrev pub skipped_with : (told : Bool) → Ending → List Provisioner → Option (Option Outcome)
skipped_with told result provisioners =
    if told || (not (is_bare result) || nat_lt 0 (length provisioners)) then None else Some None

-- the outcome of a step that is not skipped
abbrev pub answered_with : Option ℕ → Ending → List Provisioner → Option (Option Outcome)
answered_with None result provisioners = None
answered_with (Some seconds) result provisioners = option_map Some (with_provisioners seconds result provisioners)

-- a flag that may be absent, which is then false
abbrev pub flag_or_false : Option Data → Option Bool
flag_or_false None = Some false
flag_or_false (Some d) = as_bool d

-- a step
unfoldable pub step_from : Data → Option EntryStep
step_from d = do
  skipped ← flag_or_false (member_of (codes "skipped") d)
  result ← ending_of d
  provisioners ← each_of provisioner_from (member_of (codes "provisioners") d)
  after ← each_of wait_from (member_of (codes "after") d)
  outcome ← if skipped
      then skipped_with (is_some (member_of (codes "seconds") d)) result provisioners
      else answered_with (seconds_of d) result provisioners
  Some (record { outcome = outcome; after = after })

-- the entry; none if one of its members is invalid or missing
unfoldable pub entry_of : Data → Option Entry
entry_of d = do
  address ← text_of (codes "address") d
  deposed ← text_or [] (member_of (codes "deposed") d)
  list ← member_of (codes "steps") d
  items ← as_array list
  steps ← all_some (map step_from (list_of items))
  Some (record { address = address; deposed = unless_empty deposed; steps = steps })
