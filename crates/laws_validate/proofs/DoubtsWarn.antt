-- Doubts are warnings: no run refuses for one of them.
use Rattle.std.proofs.Common.{◌≡◌, ℕ, List, [], ◌∷◌, length, take, Bool, false, is_some, Option, Some, None, Result, Ok, Err, if◌then◌else◌, refl}
use Rattle.std.specs.Prelude.{nat_lt}
use Rattle.std.specs.List.{list_any}
use Rattle.std.specs.Option.{option_map_or}
use Rattle.serde_json.specs.Data.{Data}
use Rattle.apply_model.specs.Plan.ResourceChange.{ResourceChange}
use Rattle.apply_model.specs.Plan.SavedPlan.{SavedPlan}
use Rattle.apply_plan.specs.Plan.SavedPlan.{plan_of}
use Rattle.apply_plan.specs.declared.plan.plan_error.PlanError.{PlanError}
use Rattle.input_validate.specs.declared.findings.name.Name.TheVariants as name
use Rattle.input_validate.specs.declared.findings.problem.Problem.TheVariants.{ValuelessOutput}
use Rattle.input_validate.specs.declared.form.Form.{Form}
use Rattle.input_validate.specs.declared.form.Form.TheVariants.{Applystream, Terraform, TerraformPlan, TerraformApply}
use Rattle.input_validate.specs.AgainstPlan.{change_at}
use Rattle.input_validate.specs.Doubts.{doubts, doubts_for, doubts_of, failed_in_script, failure_of_step, failure_violation, failures_of_entry, first_valueless, is_update, named_in_script, needless_skips, output_changes, output_doubts, script_doubts, skip_of_step, skip_violation, skips_in_entry, tree_within, unheeded_failures, unheeded_in_entry, valueless_output}
use Rattle.input_validate.specs.Findings.{finding_here, is_refusal}
use Rattle.input_validate.specs.InForm.{doubts_unless}
use Rattle.input_validate.specs.ObjectNames.{Named}
use Rattle.input_validate.specs.PlanFindings.{first_named, name_read}
use Rattle.input_validate.specs.Rules.{in_items, inside}
use Rattle.laws_validate.proofs.AllRefuse.{AreAll, both_all, choice_all, each_all, first_all, no_refusal, violations_all}

-- ---- each doubt

failure_warns : (d : Data) → AreAll false (failure_of_step d)
failure_warns d = violations_all false (failure_violation d ∷ []) (refl, tt)

unheeded_entry_warns : (waited : List (Option Named)) (d : Data) → AreAll false (unheeded_in_entry waited d)
unheeded_entry_warns waited d =
    choice_all false (is_some (first_named waited (name_read d))) [] (failures_of_entry d) tt (each_all false failure_of_step failure_warns name.Steps d)

unheeded_warns : (d : Data) → AreAll false (unheeded_failures d)
unheeded_warns d = each_all false (unheeded_in_entry (named_in_script d)) (unheeded_entry_warns (named_in_script d)) name.Changes d

skip_warns : (d : Data) → AreAll false (skip_of_step d)
skip_warns d = violations_all false (skip_violation d ∷ []) (refl, tt)

skips_entry_warns : (changes : List ResourceChange) (d : Data) → AreAll false (skips_in_entry changes d)
skips_entry_warns changes d =
    choice_all false (is_update (change_at (Some changes) d)) [] (inside (in_items (λ number. skip_of_step)) name.Steps d) tt (each_all false skip_of_step skip_warns name.Steps d)

needless_warns : (changes : List ResourceChange) (d : Data) → AreAll false (needless_skips changes d)
needless_warns changes d =
    choice_all false (nat_lt 0 (length (failed_in_script d))) [] (inside (in_items (λ number. skips_in_entry changes)) name.Changes d) tt
    (each_all false (skips_in_entry changes) (skips_entry_warns changes) name.Changes d)

valueless_by : (o : Option ℕ) → AreAll false (option_map_or (λ n. finding_here (ValuelessOutput n) ∷ []) o [])
valueless_by None = tt
valueless_by (Some n) = (refl, tt)

-- ---- the whole

script_warns : (lanes : Bool) (changes : List ResourceChange) (d : Data) → AreAll false (script_doubts lanes changes d)
script_warns lanes changes d =
    both_all false (if lanes then take 1 (unheeded_failures d) else []) (take 1 (needless_skips changes d))
    (choice_all false lanes (take 1 (unheeded_failures d)) [] (first_all false (unheeded_failures d) (unheeded_warns d)) tt)
    (first_all false (needless_skips changes d) (needless_warns changes d))

for_warns : (lanes : Bool) (plan : Result SavedPlan PlanError) (d : Data) → AreAll false (doubts_for lanes plan d)
for_warns lanes (Ok plan) d = script_warns lanes plan.changes d
for_warns lanes (Err refusal) d = tt

tree_warns : (d : Data) (o : Option Data) → AreAll false (option_map_or (λ tree. valueless_output tree d) o [])
tree_warns d None = tt
tree_warns d (Some tree) = valueless_by (first_valueless d 0 (output_changes tree))

output_warns : (form : Form) (plan : List ℕ) (d : Data) → AreAll false (output_doubts form plan d)
output_warns Applystream plan d = tt
output_warns Terraform plan d = tree_warns d (tree_within plan)
output_warns TerraformPlan plan d = tt
output_warns TerraformApply plan d = tree_warns d (tree_within plan)

of_warns : (form : Form) (lanes : Bool) (plan : List ℕ) (o : Option Data) → AreAll false (option_map_or (doubts_of form lanes plan) o [])
of_warns form lanes plan None = tt
of_warns form lanes plan (Some d) = both_all false (doubts_for lanes (plan_of plan) d) (output_doubts form plan d) (for_warns lanes (plan_of plan) d) (output_warns form plan d)

doubts_warn : (form : Form) (lanes : Bool) (plan : List ℕ) (script : Option (List ℕ)) → AreAll false (doubts form lanes plan script)
doubts_warn form lanes plan None = tt
doubts_warn form lanes plan (Some bytes) = of_warns form lanes plan (tree_within bytes)

-- no run refuses for a doubt
pub doubts_refuse_nothing : (refused : Bool) (form : Form) (lanes : Bool) (plan : List ℕ) (script : Option (List ℕ)) → list_any is_refusal (doubts_unless refused form lanes plan script) ≡ false
doubts_refuse_nothing refused form lanes plan script =
    no_refusal (doubts_unless refused form lanes plan script) (choice_all false refused [] (doubts form lanes plan script) tt (doubts_warn form lanes plan script))
