-- Findings of the members that only a run in Terraform's form reads. All paths start at the value.
use Rattle.std.specs.Prelude.{ℕ, suc, List, [], ◌∷◌, ◌++◌, length, map, Bool, nat_lt, if◌then◌else◌, Option, Some, None, option_map}
use Rattle.std.specs.Option.{option_map_or}
use Rattle.serde_json.specs.Data.{Data, Members, no_members, member}
use Rattle.apply_json.specs.ShallowView.{members_in}
use Rattle.apply_json.specs.Tree.{tree_of}
use Rattle.apply_plan.specs.Bytes.{max_bytes}
use Rattle.apply_plan_terraform.specs.Outputs.{OutputsOfPlan, has_output}
use Rattle.apply_plan_terraform.specs.ReadDetails.{details_of}
use Rattle.input_validate.specs.declared.findings.finding.Finding.{Finding}
use Rattle.input_validate.specs.declared.findings.name.Name.{Name}
use Rattle.input_validate.specs.declared.findings.name.Name.TheVariants as name
use Rattle.input_validate.specs.declared.findings.path.Segment.TheVariants.{Other}
use Rattle.input_validate.specs.declared.findings.expected.Expected.TheVariants as expected
use Rattle.input_validate.specs.declared.findings.problem.Problem.TheVariants.{UnknownOutput}
use Rattle.input_validate.specs.declared.rules.rule.MemberRule.{MemberRule}
use Rattle.input_validate.specs.Findings.{finding_here, under}
use Rattle.input_validate.specs.Rules.{fault_of, faults_of, in_list, inside, rule, ignored, where_suits}

-- ---- outputs

abbrev pub plan_output_table : List MemberRule
plan_output_table = rule name.Kind expected.NotNull ∷ rule name.Sensitive expected.FlagOrAbsent ∷ []

abbrev pub plan_output_names : List Name
plan_output_names = name.Kind ∷ name.Value ∷ name.Sensitive ∷ []

-- after the apply, the plan has no output of this name; nothing is reported without a plan
abbrev pub unless_planned : Option OutputsOfPlan → List ℕ → List Finding
unless_planned None text = []
unless_planned (Some plan) text = if has_output plan text then [] else finding_here UnknownOutput ∷ []

-- the findings of the output with this name
unfoldable pub in_plan_output : Option OutputsOfPlan → List ℕ → Data → List Finding
in_plan_output plan text d =
    where_suits expected.PlanOutput d (faults_of plan_output_table d) ++ unless_planned plan text ++ ignored plan_output_names d

-- the findings of members; `n` is the number of the first member, and the findings may depend on
-- the name
abbrev pub members_from : (List ℕ → Data → List Finding) → ℕ → Members → List Finding
members_from findings n no_members = []
members_from findings n (member text d ms) = map (under (Other n)) (findings text d) ++ members_from findings (suc n) ms

-- the findings of all outputs
abbrev pub in_plan_outputs : Option OutputsOfPlan → Data → List Finding
in_plan_outputs plan d = members_from (in_plan_output plan) 0 (members_in d)

-- ---- diagnostics of no step

abbrev pub note_table : List MemberRule
note_table =
    rule name.Severity expected.NoteSeverity ∷ rule name.Summary expected.Text ∷ rule name.Detail expected.TextOrAbsent
    ∷ rule name.Address expected.TextOrAbsent ∷ rule name.Range expected.ObjectOrAbsent ∷ rule name.Snippet expected.ObjectOrAbsent ∷ []

abbrev pub note_names : List Name
note_names = name.Severity ∷ name.Summary ∷ name.Detail ∷ name.Address ∷ name.Range ∷ name.Snippet ∷ []

unfoldable pub in_note : Data → List Finding
in_note d = where_suits expected.Note d (faults_of note_table d ++ ignored note_names d)

-- ---- the whole

unfoldable pub in_extras : Option OutputsOfPlan → Data → List Finding
in_extras plan d =
    fault_of d (rule name.Outputs expected.ObjectOrAbsent)
    ++ inside (in_plan_outputs plan) name.Outputs d
    ++ in_list (λ number. in_note) (rule name.Diagnostics expected.ArrayOrAbsent) d

-- The findings in the bytes of a script. Bytes that are too many or not JSON are reported
-- elsewhere.
abbrev pub extras_findings : Option OutputsOfPlan → List ℕ → List Finding
extras_findings plan bytes = if nat_lt max_bytes (length bytes) then [] else option_map_or (in_extras plan) (tree_of bytes) []

-- the outputs that the bytes of a plan state; none if a run refuses the plan
abbrev pub outputs_unless : (refused : Bool) → List ℕ → Option OutputsOfPlan
outputs_unless refused bytes = if refused then None else option_map (λ details. details.outputs) (details_of bytes)
