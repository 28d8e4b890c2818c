-- What a run accepts, and what is likely a mistake. All paths start at the value.
use Rattle.std.specs.Prelude.{ℕ, suc, codes, List, [], ◌∷◌, ◌++◌, length, map, take, Bool, false, ◌&&◌, not, is_some, nat_lt, if◌then◌else◌, Option, Some, None, option_and_then, Result, Ok, Err}
use Rattle.std.specs.List.{flat_map}
use Rattle.std.specs.Option.{option_map_or}
use Rattle.serde_json.specs.Data.{Data, Members, no_members, member}
use Rattle.serde_json.specs.Find.{as_bool, get}
use Rattle.apply_json.specs.ShallowView.{members_in}
use Rattle.apply_json.specs.Tree.{is_word, tree_of}
use Rattle.apply_model.specs.declared.plan.step_kind.StepKind.TheVariants.{Update}
use Rattle.apply_model.specs.Plan.ResourceChange.{ResourceChange}
use Rattle.apply_model.specs.Plan.SavedPlan.{SavedPlan}
use Rattle.apply_model.specs.Plan.StepKind.{is_kind}
use Rattle.apply_plan.specs.Bytes.{max_bytes}
use Rattle.apply_plan.specs.Plan.SavedPlan.{plan_of}
use Rattle.apply_plan.specs.declared.plan.plan_error.PlanError.{PlanError}
use Rattle.input_validate.specs.declared.findings.finding.Finding.{Finding}
use Rattle.input_validate.specs.declared.findings.name.Name.TheVariants as name
use Rattle.input_validate.specs.declared.findings.problem.Problem.TheVariants.{NeedlessSkip, UnheededFailure, ValuelessOutput}
use Rattle.input_validate.specs.declared.form.Form.{Form}
use Rattle.input_validate.specs.declared.form.Form.TheVariants.{Applystream, Terraform, TerraformPlan, TerraformApply}
use Rattle.input_validate.specs.declared.rules.violation.Violation.{Violation}
use Rattle.input_validate.specs.AgainstPlan.{change_at, kind_of, object_named, only_warns}
use Rattle.input_validate.specs.Findings.{finding_here}
use Rattle.input_validate.specs.ObjectNames.{Named}
use Rattle.input_validate.specs.PlanFindings.{first_named, name_read}
use Rattle.input_validate.specs.Rules.{in_items, inside, items_at, member_at, violation_findings}
use Rattle.input_validate.specs.ScriptFindings.{has_failed}
use Rattle.input_validate.specs.Skipped.{is_skipped}

-- ---- failures that no step waits for

-- the objects that the items of `after` in a step name
abbrev pub named_in_step : Data → List (Option Named)
named_in_step d = map object_named (items_at name.After d)

abbrev pub named_in_entry : Data → List (Option Named)
named_in_entry d = flat_map named_in_step (items_at name.Steps d)

-- the objects that the items of `after` in a script name
abbrev pub named_in_script : Data → List (Option Named)
named_in_script d = flat_map named_in_entry (items_at name.Changes d)

-- a step fails; a failure that only warns is none
abbrev pub failure_violation : Data → Violation
failure_violation d = record { holds = has_failed d && not (only_warns d); at = Some name.Failed; problem = UnheededFailure }

abbrev pub failure_of_step : Data → List Finding
failure_of_step d = violation_findings (failure_violation d ∷ [])

-- the steps of an entry that fail
abbrev pub failures_of_entry : Data → List Finding
failures_of_entry d = inside (in_items (λ number. failure_of_step)) name.Steps d

-- the steps of an entry that fail, unless an item of `after` names its object; `waited` is what the
-- items name
abbrev pub unheeded_in_entry : (waited : List (Option Named)) → Data → List Finding
unheeded_in_entry waited d = if is_some (first_named waited (name_read d)) then [] else failures_of_entry d

-- the steps of a script that fail while no step waits for their change
abbrev pub unheeded_failures : Data → List Finding
unheeded_failures d = inside (in_items (λ number. unheeded_in_entry (named_in_script d))) name.Changes d

-- ---- steps that are skipped where nothing fails

-- `failed` stands at a step or a provisioner; of such findings only the number counts, and none is
-- reported
abbrev pub failed_violation : Data → Violation
failed_violation d = record { holds = has_failed d; at = Some name.Failed; problem = UnheededFailure }

abbrev pub failed_here : Data → List Finding
failed_here d = violation_findings (failed_violation d ∷ [])

abbrev pub failed_in_step : Data → List Finding
failed_in_step d = failed_here d ++ inside (in_items (λ number. failed_here)) name.Provisioners d

abbrev pub failed_in_entry : Data → List Finding
failed_in_entry d = inside (in_items (λ number. failed_in_step)) name.Steps d

-- a diagnostic of no step is an error
abbrev pub error_violation : Data → Violation
error_violation d = record {
  holds = option_map_or (is_word (codes "error")) (member_at name.Severity d) false;
  at = None;
  problem = UnheededFailure;
}

abbrev pub error_of_note : Data → List Finding
error_of_note d = violation_findings (error_violation d ∷ [])

-- what fails in a script: steps, provisioners, and diagnostics of no step that are errors
abbrev pub failed_in_script : Data → List Finding
failed_in_script d =
    inside (in_items (λ number. failed_in_entry)) name.Changes d ++ inside (in_items (λ number. error_of_note)) name.Diagnostics d

-- a step is skipped
abbrev pub skip_violation : Data → Violation
skip_violation d = record { holds = is_skipped d; at = Some name.Skipped; problem = NeedlessSkip }

abbrev pub skip_of_step : Data → List Finding
skip_of_step d = violation_findings (skip_violation d ∷ [])

-- the change is an update
abbrev pub is_update : Option ResourceChange → Bool
is_update change = option_map_or (is_kind Update) (kind_of change 0) false

-- the steps of an entry that are skipped, unless they are updates
abbrev pub skips_in_entry : List ResourceChange → Data → List Finding
skips_in_entry changes d =
    if is_update (change_at (Some changes) d) then [] else inside (in_items (λ number. skip_of_step)) name.Steps d

-- the steps of a script that are skipped, unless something fails
abbrev pub needless_skips : List ResourceChange → Data → List Finding
needless_skips changes d =
    if nat_lt 0 (length (failed_in_script d)) then [] else inside (in_items (λ number. skips_in_entry changes)) name.Changes d

-- ---- outputs that get no value

-- the plan leaves the value of an output unknown
abbrev pub is_unknown : Data → Bool
is_unknown change = option_map_or (λ flag. flag) (option_and_then as_bool (get (codes "after_unknown") change)) false

-- a script has an output of this name
abbrev pub states_output : (script : Data) → List ℕ → Bool
states_output script text = is_some (option_and_then (get text) (member_at name.Outputs script))

-- the number of the first output that the plan leaves unknown and the script does not state; `n` is
-- the number of the first of these outputs
abbrev pub first_valueless : (script : Data) → ℕ → Members → Option ℕ
first_valueless script n no_members = None
first_valueless script n (member text change changes) =
    if is_unknown change && not (states_output script text) then Some n else first_valueless script (suc n) changes

-- the outputs that a plan changes
abbrev pub output_changes : Data → Members
output_changes plan = option_map_or members_in (get (codes "output_changes") plan) no_members

-- the finding of an output of the plan, reported at the top of the script
abbrev pub valueless_output : (plan script : Data) → List Finding
valueless_output plan script = option_map_or (λ n. finding_here (ValuelessOutput n) ∷ []) (first_valueless script 0 (output_changes plan)) []

-- ---- the whole

-- the doubts about a script for these changes, each once; without lanes no step waits
abbrev pub script_doubts : (lanes : Bool) → List ResourceChange → Data → List Finding
script_doubts lanes changes d = (if lanes then take 1 (unheeded_failures d) else []) ++ take 1 (needless_skips changes d)

-- the same for a plan that a run may refuse
abbrev pub doubts_for : (lanes : Bool) → Result SavedPlan PlanError → Data → List Finding
doubts_for lanes (Ok plan) d = script_doubts lanes plan.changes d
doubts_for lanes (Err refusal) d = []

-- the tree of an input, unless it is too large
abbrev pub tree_within : List ℕ → Option Data
tree_within bytes = if nat_lt max_bytes (length bytes) then None else tree_of bytes

-- the doubts about outputs, by the bytes of the plan
abbrev pub valueless_in : (plan : List ℕ) → Data → List Finding
valueless_in plan d = option_map_or (λ tree. valueless_output tree d) (tree_within plan) []

-- the same for a run in this form: only an apply in Terraform's form prints values of outputs
abbrev pub output_doubts : Form → (plan : List ℕ) → Data → List Finding
output_doubts Applystream plan d = []
output_doubts Terraform plan d = valueless_in plan d
output_doubts TerraformPlan plan d = []
output_doubts TerraformApply plan d = valueless_in plan d

-- all doubts about a script
abbrev pub doubts_of : Form → (lanes : Bool) → (plan : List ℕ) → Data → List Finding
doubts_of form lanes plan d = doubts_for lanes (plan_of plan) d ++ output_doubts form plan d

-- the doubts about the bytes of a script, if one is given
abbrev pub doubts : Form → (lanes : Bool) → (plan : List ℕ) → (script : Option (List ℕ)) → List Finding
doubts form lanes plan None = []
doubts form lanes plan (Some bytes) = option_map_or (doubts_of form lanes plan) (tree_within bytes) []
