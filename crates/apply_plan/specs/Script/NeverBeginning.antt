-- All entries of a script with a step that can never start (the script's own format).
use Rattle.std.specs.Prelude.{ℕ, List, length, nat_lt, slice_get, if◌then◌else◌, Option, Some, None, option_map, Result, Ok, Err}
use Rattle.serde_json.specs.Data.{Data}
use Rattle.apply_json.specs.Verbatim.{mixed_tree_of}
use Rattle.apply_json.specs.Tree.{list_of}
use Rattle.apply_model.specs.Plan.SavedPlan.{SavedPlan}
use Rattle.apply_resolve.specs.Unreachable.{numbers_from}
use Rattle.apply_plan.specs.declared.script.script_error.ScriptError.{ScriptError}
use Rattle.apply_plan.specs.declared.script.script_error.ScriptError.TheVariants.{TooLarge, NotJson, BadShape, NeverBegins}
use Rattle.apply_plan.specs.Bytes.{max_bytes}
use Rattle.apply_plan.specs.Results.{◌>>=◌, all_or_first, each_with_earlier, or_refuse}
use Rattle.apply_plan.specs.Script.Entry.{is_verbatim_name}
use Rattle.apply_plan.specs.Script.OutcomeMap.{by_number, elements_of, entry_at, is_stuck}

-- ---- the elements of `changes`, or the error if it is not an array

abbrev pub elements_of_tree : Data → Result (List Data) ScriptError
elements_of_tree d = or_refuse (BadShape None) (elements_of d) >>= λ elements. Ok (list_of elements)

-- the elements in bytes, as `script_of` reads them
abbrev pub elements_in : List ℕ → Result (List Data) ScriptError
elements_in bytes =
    if nat_lt max_bytes (length bytes) then Err TooLarge
    else (or_refuse NotJson (mixed_tree_of is_verbatim_name bytes) >>= elements_of_tree)

-- ---- the entries with a step that can never start

-- the numbers of these entries, or the first fault of an entry
unfoldable pub never_beginning_in : SavedPlan → List Data → Result (List ℕ) ScriptError
never_beginning_in plan elements = do
  entries ← all_or_first (each_with_earlier (entry_at plan.changes) elements)
  Ok (numbers_from 0 (is_stuck (by_number (length plan.changes) entries)) entries)

-- the numbers of these entries in bytes, or any other error of the script
unfoldable pub never_beginning_of : SavedPlan → List ℕ → Result (List ℕ) ScriptError
never_beginning_of plan bytes = elements_in bytes >>= never_beginning_in plan

-- the error of the script, by these numbers; none for a valid script
abbrev pub refusal_of : Result (List ℕ) ScriptError → Option ScriptError
refusal_of (Ok numbers) = option_map NeverBegins (slice_get numbers 0)
refusal_of (Err refusal) = Some refusal
