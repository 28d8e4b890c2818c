-- The next entry, resolved after earlier entries, for private clauses.
use Rattle.std.specs.Prelude.{ℕ, List, length, map, sum_by, is_some, if◌then◌else◌, Some, Result, Err}
use Rattle.serde_json.specs.Data.{Data}
use Rattle.apply_model.specs.declared.script.script_step.ScriptStep.{ScriptStep}
use Rattle.apply_plan.specs.declared.script.script_error.ScriptError.{ScriptError}
use Rattle.apply_plan.specs.declared.script.script_error.ScriptError.TheVariants.{BadShape, UnknownChange, Duplicate}
use Rattle.apply_model.specs.Plan.ResourceChange.{ResourceChange}
use Rattle.apply_plan.specs.Results.{◌>>=◌, or_refuse, unless_refused}
use Rattle.apply_plan.specs.Script.Entry.{EntryStep, entry_of}
use Rattle.apply_model.specs.Script.OutcomeMap.{OutcomeMap, stated_steps}
use Rattle.apply_plan.specs.Script.OutcomeMap.{ResolvedEntry, by_number, change_of_entry, resolved_by}
use Rattle.apply_plan.specs.Script.Refusals.{fault_of_entry, fault_of_names}
use Rattle.apply_plan.specs.Script.WaitedStep.{resolved_step}

-- entry n resolved, or its first fault; `outcomes` and `earlier` are of the entries before it
unfoldable pub resolved_next : List ResourceChange → OutcomeMap → (earlier n : ℕ) → Data → Result ResolvedEntry ScriptError
resolved_next changes outcomes earlier n d = do
  entry ← or_refuse (BadShape (Some n)) (entry_of d)
  located ← or_refuse (UnknownChange n) (change_of_entry changes entry)
  if is_some (stated_steps outcomes located.0) then Err (Duplicate n)
      else unless_refused (fault_of_entry n changes earlier located.1 entry.steps) (resolved_by changes located.0 entry.steps)

-- how many items the `after` lists of the entries have
abbrev pub count_waits : List ResolvedEntry → ℕ
count_waits made = sum_by (λ entry. entry.waits) made

-- the next entry, resolved after other entries
abbrev pub entry_after : List ResourceChange → List ResolvedEntry → Data → Result ResolvedEntry ScriptError
entry_after changes made d = resolved_next changes (by_number (length changes) made) (count_waits made) (length made) d

-- contracts see the result of `resolve_entry` as a resolved entry
abbrev pub resolved_view : ℕ × List ScriptStep × ℕ → ResolvedEntry
resolved_view entry = record { change = entry.0; steps = entry.1; waits = entry.2 }

-- the steps of entry n, or the first fault of the names in their `after` lists
abbrev pub steps_or_fault : (n : ℕ) → List ResourceChange → List EntryStep → Result (List ScriptStep) ScriptError
steps_or_fault n changes steps = unless_refused (fault_of_names n changes steps) (map (resolved_step changes) steps)
