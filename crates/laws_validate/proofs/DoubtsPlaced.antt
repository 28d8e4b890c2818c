-- Doubts stand at their places in the script.
use Rattle.std.proofs.Common.{◌≡◌, ℕ, List, [], ◌∷◌, take, Bool, true, false, not, ◌&&◌, is_some, Option, Some, None, Result, Ok, Err, if◌then◌else◌, refl}
use Rattle.std.specs.Prelude.{length, nat_lt}
use Rattle.std.specs.Option.{option_and_then, option_map_or}
use Rattle.serde_json.specs.Data.{Data}
use Rattle.serde_json.specs.Find.{as_bool, get}
use Rattle.apply_json.specs.Tree.{tree_of}
use Rattle.apply_model.specs.Plan.ResourceChange.{ResourceChange}
use Rattle.apply_model.specs.Plan.SavedPlan.{SavedPlan}
use Rattle.apply_plan.specs.Bytes.{max_bytes}
use Rattle.apply_plan.specs.Plan.SavedPlan.{plan_of}
use Rattle.apply_plan.specs.declared.plan.plan_error.PlanError.{PlanError}
use Rattle.input_validate.specs.declared.findings.finding.Finding.{Finding}
use Rattle.input_validate.specs.declared.findings.name.Name.{Name}
use Rattle.input_validate.specs.declared.findings.name.Name.TheVariants as name
use Rattle.input_validate.specs.declared.findings.path.Segment.{Segment}
use Rattle.input_validate.specs.declared.findings.path.Segment.TheVariants.{Item, Member}
use Rattle.input_validate.specs.declared.findings.problem.Problem.TheVariants.{ValuelessOutput}
use Rattle.input_validate.specs.declared.form.Form.{Form}
use Rattle.input_validate.specs.declared.form.Form.TheVariants.{Applystream, Terraform, TerraformPlan, TerraformApply}
use Rattle.input_validate.specs.AgainstPlan.{change_at, only_warns}
use Rattle.input_validate.specs.Doubts.{doubts, doubts_for, doubts_of, failed_in_script, failure_of_step, failure_violation, first_valueless, is_update, named_in_script, needless_skips, output_changes, output_doubts, script_doubts, skip_of_step, skip_violation, skips_in_entry, tree_within, unheeded_failures, unheeded_in_entry, valueless_output}
use Rattle.input_validate.specs.Findings.{finding_here}
use Rattle.input_validate.specs.InForm.{doubts_unless}
use Rattle.input_validate.specs.Names.{name_text}
use Rattle.input_validate.specs.ObjectNames.{Named}
use Rattle.input_validate.specs.PlanFindings.{first_named, name_read}
use Rattle.input_validate.specs.Rules.{in_items, inside, member_at}
use Rattle.input_validate.specs.ScriptFindings.{has_failed}
use Rattle.input_validate.specs.Skipped.{is_skipped}
use Rattle.input_validate.proofs.Options.{and_left}
use Rattle.laws_validate.proofs.BytesPlaced.{AreReported, none_reported}
use Rattle.laws_validate.proofs.Placing.{AreRight, below, both, inside_right, items_right}
use Rattle.laws_validate.proofs.ViolationPlaces.{holding_some, then_some, there, violations_right}

first_right : (R : List Segment → List Name → Type 0) (d : Data) (xs : List Finding) → AreRight R d xs → AreRight R d (take 1 xs)
first_right R d [] h = tt
first_right R d (x ∷ xs) h = (h.0, tt)

unless_right : (R : List Segment → List Name → Type 0) (d : Data) (b : Bool) (xs : List Finding) → AreRight R d xs → AreRight R d (if b then [] else xs)
unless_right R d true xs h = tt
unless_right R d false xs h = h

where_right : (R : List Segment → List Name → Type 0) (d : Data) (b : Bool) (xs : List Finding) → AreRight R d xs → AreRight R d (if b then xs else [])
where_right R d true xs h = h
where_right R d false xs h = tt

-- the findings of each item of a member
each_right : (findings : Data → List Finding) → ((R : List Segment → List Name → Type 0) (e : Data) → AreRight R e (findings e))
    → (R : List Segment → List Name → Type 0) (member : Name) (d : Data) → AreRight R d (inside (in_items (λ number. findings)) member d)
each_right findings h R member d =
    inside_right R (in_items (λ number. findings)) member d
    (λ list. items_right (below (Member member) R) (λ number. findings) list (λ m e. h (below (Item m) (below (Member member) R)) e))

-- ---- failures that no step waits for

failed_there : (d : Data) (b : Bool) → (has_failed d && b) ≡ true → is_some (get (name_text name.Failed) d) ≡ true
failed_there d b e = there name.Failed d (and_left (has_failed d) b e)

failure_right : (R : List Segment → List Name → Type 0) (d : Data) → AreRight R d (failure_of_step d)
failure_right R d = violations_right R d (failure_violation d ∷ []) ((refl, λ e. failed_there d (not (only_warns d)) e), tt)

unheeded_entry_right : (waited : List (Option Named)) (R : List Segment → List Name → Type 0) (d : Data) → AreRight R d (unheeded_in_entry waited d)
unheeded_entry_right waited R d =
    unless_right R d (is_some (first_named waited (name_read d))) (inside (in_items (λ number. failure_of_step)) name.Steps d)
    (each_right failure_of_step failure_right R name.Steps d)

unheeded_right : (R : List Segment → List Name → Type 0) (d : Data) → AreRight R d (unheeded_failures d)
unheeded_right R d = each_right (unheeded_in_entry (named_in_script d)) (unheeded_entry_right (named_in_script d)) R name.Changes d

-- ---- steps that are skipped where nothing fails

skipped_there : (d : Data) → is_skipped d ≡ true → is_some (get (name_text name.Skipped) d) ≡ true
skipped_there d e =
    there name.Skipped d (then_some as_bool (member_at name.Skipped d) (holding_some (λ (flag : Bool). flag) (option_and_then as_bool (member_at name.Skipped d)) e))

skip_right : (R : List Segment → List Name → Type 0) (d : Data) → AreRight R d (skip_of_step d)
skip_right R d = violations_right R d (skip_violation d ∷ []) ((refl, λ e. skipped_there d e), tt)

skips_entry_right : (changes : List ResourceChange) (R : List Segment → List Name → Type 0) (d : Data) → AreRight R d (skips_in_entry changes d)
skips_entry_right changes R d =
    unless_right R d (is_update (change_at (Some changes) d)) (inside (in_items (λ number. skip_of_step)) name.Steps d)
    (each_right skip_of_step skip_right R name.Steps d)

needless_right : (R : List Segment → List Name → Type 0) (changes : List ResourceChange) (d : Data) → AreRight R d (needless_skips changes d)
needless_right R changes d =
    unless_right R d (nat_lt 0 (length (failed_in_script d))) (inside (in_items (λ number. skips_in_entry changes)) name.Changes d)
    (each_right (skips_in_entry changes) (skips_entry_right changes) R name.Changes d)

-- ---- the whole

script_doubts_right : (R : List Segment → List Name → Type 0) (lanes : Bool) (changes : List ResourceChange) (d : Data) → AreRight R d (script_doubts lanes changes d)
script_doubts_right R lanes changes d =
    both R d (if lanes then take 1 (unheeded_failures d) else []) (take 1 (needless_skips changes d))
    (where_right R d lanes (take 1 (unheeded_failures d)) (first_right R d (unheeded_failures d) (unheeded_right R d)))
    (first_right R d (needless_skips changes d) (needless_right R changes d))

for_right : (R : List Segment → List Name → Type 0) (lanes : Bool) (plan : Result SavedPlan PlanError) (d : Data) → AreRight R d (doubts_for lanes plan d)
for_right R lanes (Ok plan) d = script_doubts_right R lanes plan.changes d
for_right R lanes (Err refusal) d = tt

valueless_by : (R : List Segment → List Name → Type 0) (d : Data) (o : Option ℕ) → AreRight R d (option_map_or (λ n. finding_here (ValuelessOutput n) ∷ []) o [])
valueless_by R d None = tt
valueless_by R d (Some n) = (refl, tt)

tree_right : (R : List Segment → List Name → Type 0) (d : Data) (o : Option Data) → AreRight R d (option_map_or (λ tree. valueless_output tree d) o [])
tree_right R d None = tt
tree_right R d (Some tree) = valueless_by R d (first_valueless d 0 (output_changes tree))

output_right : (R : List Segment → List Name → Type 0) (form : Form) (plan : List ℕ) (d : Data) → AreRight R d (output_doubts form plan d)
output_right R Applystream plan d = tt
output_right R Terraform plan d = tree_right R d (tree_within plan)
output_right R TerraformPlan plan d = tt
output_right R TerraformApply plan d = tree_right R d (tree_within plan)

doubts_of_right : (R : List Segment → List Name → Type 0) (form : Form) (lanes : Bool) (plan : List ℕ) (d : Data) → AreRight R d (doubts_of form lanes plan d)
doubts_of_right R form lanes plan d =
    both R d (doubts_for lanes (plan_of plan) d) (output_doubts form plan d) (for_right R lanes (plan_of plan) d) (output_right R form plan d)

by_size : (R : List Segment → List Name → Type 0) (findings : Data → List Finding) (large : Bool) (o : Option Data) → ((d : Data) → AreRight R d (findings d))
    → AreReported R o (option_map_or findings (let within : Option Data = if large then None else o in within) [])
by_size R findings true None h = tt
by_size R findings true (Some d) h = tt
by_size R findings false None h = tt
by_size R findings false (Some d) h = h d

unless_reported : (R : List Segment → List Name → Type 0) (o : Option Data) (refused : Bool) (xs : List Finding) → AreReported R o xs → AreReported R o (if refused then [] else xs)
unless_reported R o true xs h = none_reported R o
unless_reported R o false xs h = h

pub doubts_reported : (R : List Segment → List Name → Type 0) (refused : Bool) (form : Form) (lanes : Bool) (plan script : List ℕ)
    → AreReported R (tree_of script) (doubts_unless refused form lanes plan (Some script))
doubts_reported R refused form lanes plan script =
    unless_reported R (tree_of script) refused (doubts form lanes plan (Some script))
    (by_size R (doubts_of form lanes plan) (nat_lt max_bytes (length script)) (tree_of script) (doubts_of_right R form lanes plan))
