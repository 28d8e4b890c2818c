-- The outcomes that a script states for the steps of a plan, or the first fault
-- (the script's own format).
use Rattle.std.specs.Prelude.{ℕ, List, length, map, find, sum_by, Bool, false, not, ◌==◌, codes, nat_lt, if◌then◌else◌, Option, Some, None, option_map, Result, Err}
use Rattle.std.specs.List.{enumerate_from, list_any, position_from, range_with_len}
use Rattle.std.specs.Option.{option_map_or}
use Rattle.serde_json.specs.Data.{Data, Items}
use Rattle.serde_json.specs.Find.{as_array}
use Rattle.apply_model.specs.declared.script.script_step.ScriptStep.{ScriptStep}
use Rattle.apply_plan.specs.declared.script.script_error.ScriptError.{ScriptError}
use Rattle.apply_plan.specs.declared.script.script_error.ScriptError.TheVariants.{TooLarge, NotJson, BadShape, UnknownChange, Duplicate, NeverBegins}
use Rattle.apply_json.specs.Tree as json
use Rattle.apply_json.specs.Tree.{list_of, member_of}
use Rattle.apply_json.specs.Verbatim.{mixed_tree_of}
use Rattle.apply_plan.specs.Bytes.{max_bytes}
use Rattle.apply_resolve.specs.ObjectName.{name_one_object}
use Rattle.apply_model.specs.Plan.ResourceChange.{ResourceChange}
use Rattle.apply_model.specs.Plan.SavedPlan.{SavedPlan}
use Rattle.apply_plan.specs.Results.{◌>>=◌, all_or_first, each_with_earlier, or_refuse, unless_refused}
use Rattle.apply_plan.specs.Script.Entry.{Entry, EntryStep, entry_of, is_verbatim_name}
pub use Rattle.apply_model.specs.Script.OutcomeMap.{IsInRange, OutcomeMap, stated_outcome, outcome_of, stated_steps}
use Rattle.apply_model.specs.Script.Waits.{could_begin}
use Rattle.apply_plan.specs.Script.Refusals.{count_of_waits, fault_of_entry}
use Rattle.apply_plan.specs.Script.WaitedStep.{resolved_step}

-- ---- entries

-- whether the entry is about the change: both have one address and one deposed key, or none
abbrev pub is_about : ResourceChange → Entry → Bool
is_about change entry = name_one_object change.address change.deposed entry.address entry.deposed

-- the change that the entry is about, and its number
abbrev pub change_of_entry : List ResourceChange → Entry → Option (ℕ × ResourceChange)
change_of_entry changes entry = find (λ p. is_about p.1 entry) (enumerate_from 0 changes)

-- whether the element is an entry about the change
abbrev pub names_change : ResourceChange → Data → Bool
names_change change d = option_map_or (is_about change) (entry_of d) false

-- how many items the `after` lists of an element have; 0 if it is not an entry
abbrev pub count_in : Data → ℕ
count_in d = option_map_or (λ entry. count_of_waits entry.steps) (entry_of d) 0

-- an entry with its change and with the steps that it waits for; `waits` counts its `after` items
pub record ResolvedEntry : Type 0 where
  pub change : ℕ
  pub steps : List ScriptStep
  pub waits : ℕ

abbrev pub resolved_by : List ResourceChange → (number : ℕ) → List EntryStep → ResolvedEntry
resolved_by changes number steps =
    record { change = number; steps = map (resolved_step changes) steps; waits = count_of_waits steps }

-- the resolved entry, or its first fault; it is compared with each element before it
unfoldable pub entry_at : List ResourceChange → List Data → Data → Result ResolvedEntry ScriptError
entry_at changes before d = do
  entry ← or_refuse (BadShape (Some (length before))) (entry_of d)
  located ← or_refuse (UnknownChange (length before)) (change_of_entry changes entry)
  if list_any (names_change located.1) before then Err (Duplicate (length before))
      else unless_refused
      (fault_of_entry (length before) changes (sum_by count_in before) located.1 entry.steps)
      (resolved_by changes located.0 entry.steps)

-- the outcomes that the entries state for a change
abbrev pub outcomes_of : List ResolvedEntry → ℕ → Option (List ScriptStep)
outcomes_of entries number = option_map (λ entry. entry.steps) (find (λ entry. entry.change == number) entries)

-- the outcomes that the entries state, for each change
abbrev pub by_number : ℕ → List ResolvedEntry → OutcomeMap
by_number count entries = map (outcomes_of entries) (range_with_len 0 count)

-- whether a step of the entry can never start
abbrev pub is_stuck : OutcomeMap → ResolvedEntry → Bool
is_stuck script entry =
    list_any (λ step. not (could_begin script entry.change step)) (range_with_len 0 (length entry.steps))

-- the script, or the error for the first entry with a step that can never start
abbrev pub unless_stuck : List ResolvedEntry → OutcomeMap → Result OutcomeMap ScriptError
unless_stuck entries script = unless_refused (option_map NeverBegins (position_from (is_stuck script) 0 entries)) script

-- ---- the script

unfoldable pub script_of_entries : SavedPlan → List Data → Result OutcomeMap ScriptError
script_of_entries plan elements = do
  entries ← all_or_first (each_with_earlier (entry_at plan.changes) elements)
  unless_stuck entries (by_number (length plan.changes) entries)

-- the elements of the array `changes`
abbrev pub elements_of : Data → Option Items
elements_of d = json.◌>>=◌ (member_of (codes "changes") d) as_array

unfoldable pub script_of_tree : SavedPlan → Data → Result OutcomeMap ScriptError
script_of_tree plan d =
    or_refuse (BadShape None) (elements_of d) >>= λ elements. script_of_entries plan (list_of elements)

-- the script that the bytes state for the plan, or the first fault
unfoldable pub script_of : SavedPlan → List ℕ → Result OutcomeMap ScriptError
script_of plan bytes =
    if nat_lt max_bytes (length bytes) then Err TooLarge
    else (or_refuse NotJson (mixed_tree_of is_verbatim_name bytes) >>= script_of_tree plan)
