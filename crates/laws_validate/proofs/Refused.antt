-- A script that a run accepts has no error, except that a step may never start.
use Rattle.std.proofs.Common.{◌≡◌, ℕ, List, [], length, Bool, true, false, cond, not, ◌&&◌, is_ok, Option, Some, None, Result, Ok, Err, refl, sym, ap, ◌∙◌}
use Rattle.std.specs.Prelude.{codes, nat_lt}
use Rattle.std.specs.List.{list_all}
use Rattle.std.specs.Option.{option_map_or}
use Rattle.serde_json.specs.Data.{Data, Items}
use Rattle.serde_json.specs.Find.{as_array}
use Rattle.apply_json.specs.Verbatim.{mixed_tree_of}
use Rattle.apply_json.specs.Tree.{◌>>=◌, list_of, member_of}
use Rattle.apply_model.specs.Plan.SavedPlan.{SavedPlan}
use Rattle.apply_model.specs.Script.OutcomeMap.{OutcomeMap}
use Rattle.apply_plan.specs.Bytes.{max_bytes}
use Rattle.apply_plan.specs.declared.script.script_error.ScriptError.{ScriptError}
use Rattle.apply_plan.specs.declared.script.script_error.ScriptError.TheVariants.{BadShape, NotJson, TooLarge}
use Rattle.apply_plan.specs.Results as results
use Rattle.apply_plan.specs.Results.{all_or_first, each_with_earlier, or_refuse}
use Rattle.apply_plan.specs.Script.Entry.{is_verbatim_name}
use Rattle.apply_plan.specs.Script.OutcomeMap.{by_number, elements_of, entry_at, script_of, script_of_entries, script_of_tree, unless_stuck}
use Rattle.laws_validate.specs.Laws.{has_refusal, is_entry}
use Rattle.input_validate.specs.Whole.{script_findings}
use Rattle.laws_validate.proofs.Entries.{entries_are}
use Rattle.input_validate.proofs.Options.{not_not}
use Rattle.laws_validate.proofs.Plans.{all_ok}
use Rattle.laws_validate.proofs.Scripts.{are_script_for_plan, clean_bytes, entries_fit, is_script_for_plan, listed_in}
use Rattle.laws_validate.proofs.Wanted.{array_in}

-- ---- the entries

first_ok : {A B E : Type 0} (r : Result A E) (f : A → Result B E) → is_ok (results.◌>>=◌ r f) ≡ true → is_ok r ≡ true
first_ok (Ok x) f e = refl
first_ok (Err d) f e = e

-- a run accepts each entry alone if and only if none has an error
pub each_accepted : (plan : SavedPlan) (ds : List Data) → is_ok (all_or_first (each_with_earlier (entry_at plan.changes) ds)) ≡ (list_all is_entry ds && entries_fit (Some plan.changes) [] ds)
each_accepted plan ds = all_ok (each_with_earlier (entry_at plan.changes) ds) ∙ entries_are plan.changes ds [] ds refl refl refl

of_entries : (plan : SavedPlan) (ds : List Data) → is_ok (script_of_entries plan ds) ≡ true → (list_all is_entry ds && entries_fit (Some plan.changes) [] ds) ≡ true
unfolding script_of_entries
of_entries plan ds e =
    sym (each_accepted plan ds)
    ∙ first_ok (all_or_first (each_with_earlier (entry_at plan.changes) ds)) (λ entries. unless_stuck entries (by_number (length plan.changes) entries)) e

-- ---- the script

pub elements_in : (o : Option Data) (ds : Items) → (o >>= as_array) ≡ Some ds → listed_in o ≡ list_of ds
elements_in None ds e = absurd cc
elements_in (Some d) ds e = array_in d ds e

of_elements : (plan : SavedPlan) (o : Option Data) (es : Option Items) → (o >>= as_array) ≡ es
    → is_ok (results.◌>>=◌ (or_refuse (BadShape None) es) (λ elements. script_of_entries plan (list_of elements))) ≡ true
    → (option_map_or (λ elements. list_all is_entry (list_of elements)) es false && entries_fit (Some plan.changes) [] (listed_in o)) ≡ true
of_elements plan o None is e = absurd cc
of_elements plan o (Some es) is e =
    ap (λ (ds : List Data). list_all is_entry (list_of es) && entries_fit (Some plan.changes) [] ds) (elements_in o es is) ∙ of_entries plan (list_of es) e

tree_ok : (plan : SavedPlan) (d : Data) → is_ok (script_of_tree plan d) ≡ true → is_script_for_plan (Some plan.changes) d ≡ true
unfolding script_of_tree
tree_ok plan d e = of_elements plan (member_of (codes "changes") d) (elements_of d) refl e

of_tree : (plan : SavedPlan) (o : Option Data) → is_ok (results.◌>>=◌ (or_refuse NotJson o) (script_of_tree plan)) ≡ true → option_map_or (is_script_for_plan (Some plan.changes)) o false ≡ true
of_tree plan None e = absurd cc
of_tree plan (Some d) e = tree_ok plan d e

by_size : (large : Bool) (r : Result OutcomeMap ScriptError) (b : Bool) → (is_ok r ≡ true → b ≡ true)
    → is_ok (let q : Result OutcomeMap ScriptError = cond large (Err TooLarge) r in q) ≡ true → cond large false b ≡ true
by_size true r b is e = absurd cc
by_size false r b is e = is e

pub script_ok : (plan : SavedPlan) (bytes : List ℕ) → is_ok (script_of plan bytes) ≡ true → are_script_for_plan (Some plan.changes) bytes ≡ true
unfolding script_of
script_ok plan bytes e =
    by_size (nat_lt max_bytes (length bytes)) (results.◌>>=◌ (or_refuse NotJson (mixed_tree_of is_verbatim_name bytes)) (script_of_tree plan))
    (option_map_or (is_script_for_plan (Some plan.changes)) (mixed_tree_of is_verbatim_name bytes) false) (of_tree plan (mixed_tree_of is_verbatim_name bytes)) e

-- a script that a run accepts has no error
pub accepted_script : (plan : SavedPlan) (bytes : List ℕ) → is_ok (script_of plan bytes) ≡ true → has_refusal (script_findings (Some plan.changes) bytes) ≡ false
accepted_script plan bytes e =
    sym (not_not (has_refusal (script_findings (Some plan.changes) bytes))) ∙ ap not (clean_bytes (Some plan.changes) bytes ∙ script_ok plan bytes e)
