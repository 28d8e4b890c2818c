-- Findings of a script. If a run accepts the plan, the script is compared with the plan's changes.
-- All paths start at the value.
use Rattle.std.specs.Prelude.{ℕ, suc, ◌+◌, List, [], ◌∷◌, ◌++◌, length, map, sum_by, Bool, true, false, ◌&&◌, is_some, nat_lt, if◌then◌else◌, Option, Some, None, option_and_then, unwrap_or}
use Rattle.serde_json.specs.Data.{Data}
use Rattle.serde_json.specs.Find.{as_number, as_object, as_str, as_u64}
use Rattle.apply_json.specs.Tree.{non_empty_text_of}
use Rattle.apply_model.specs.Plan.ResourceChange.{ResourceChange}
use Rattle.apply_model.specs.Script.Limits.{max_outputs, max_provisioners, max_seconds}
use Rattle.input_validate.specs.declared.findings.finding.Finding.{Finding}
use Rattle.input_validate.specs.declared.findings.name.Name.{Name}
use Rattle.input_validate.specs.declared.findings.name.Name.TheVariants as name
use Rattle.input_validate.specs.declared.findings.path.Segment.TheVariants.{Item, Member}
use Rattle.input_validate.specs.declared.findings.expected.Expected.TheVariants as expected
use Rattle.input_validate.specs.declared.findings.problem.Problem.TheVariants as problem
use Rattle.input_validate.specs.declared.rules.rule.MemberRule.{MemberRule}
use Rattle.input_validate.specs.declared.rules.violation.Violation.{Violation}
use Rattle.input_validate.specs.Findings.{under}
use Rattle.input_validate.specs.Names.{name_text}
use Rattle.input_validate.specs.AgainstPlan.{repeat_violation, beyond_in, change_at, kind_violations, named_first, missing_step_violation, step_count_violation, unknown_violations, waits_in_all, waits_left}
pub use Rattle.input_validate.specs.Skipped.{is_skipped}
use Rattle.input_validate.specs.Rules.{fault_of, faults_of, in_items, in_list, inside, items_at, items_after, rule, violation_findings, member_at, unless_suits, ignored, where_suits}

-- ---- diagnostics

abbrev pub diagnostic_table : List MemberRule
diagnostic_table =
    rule name.Summary expected.Text ∷ rule name.Detail expected.TextOrAbsent ∷ rule name.Range expected.ObjectOrAbsent
    ∷ rule name.Snippet expected.ObjectOrAbsent ∷ []

abbrev pub diagnostic_names : List Name
diagnostic_names = name.Summary ∷ name.Detail ∷ name.Range ∷ name.Snippet ∷ []

unfoldable pub in_diagnostic : Data → List Finding
in_diagnostic d = where_suits expected.Diagnostic d (faults_of diagnostic_table d ++ ignored diagnostic_names d)

-- why a step failed: a diagnostic with a severity
abbrev pub failure_table : List MemberRule
failure_table =
    rule name.Summary expected.Text ∷ rule name.Detail expected.TextOrAbsent ∷ rule name.Severity expected.Severity
    ∷ rule name.Range expected.ObjectOrAbsent ∷ rule name.Snippet expected.ObjectOrAbsent ∷ []

abbrev pub failure_names : List Name
failure_names = name.Summary ∷ name.Detail ∷ name.Severity ∷ name.Range ∷ name.Snippet ∷ []

unfoldable pub in_failure : Data → List Finding
in_failure d = where_suits expected.Diagnostic d (faults_of failure_table d ++ ignored failure_names d)

-- ---- what a provisioner puts out

-- a member that is a whole number
abbrev pub whole_at : Name → Data → Option ℕ
whole_at name d = option_and_then as_u64 (option_and_then as_number (member_at name d))

-- a number is over a limit; it is not if one of them is missing
abbrev pub is_over : (most number : Option ℕ) → Bool
is_over None number = false
is_over (Some n) None = false
is_over (Some n) (Some m) = nat_lt n m

abbrev pub output_table : List MemberRule
output_table = rule name.After expected.WholeOrAbsent ∷ rule name.Text expected.Text ∷ []

abbrev pub output_names : List Name
output_names = name.After ∷ name.Text ∷ []

-- an item comes no later than its provisioner ends, and no sooner than the item in front of it
abbrev pub output_violations : (seconds before : Option ℕ) → Data → List Violation
output_violations seconds before d =
    record { holds = is_over seconds (whole_at name.After d); at = Some name.After; problem = problem.AfterTheEnd (unwrap_or seconds 0) }
    ∷ record { holds = is_over (whole_at name.After d) before; at = Some name.After; problem = problem.OutOfOrder (unwrap_or before 0) }
    ∷ []

-- The findings of an item. `seconds` is how long its provisioner takes, and `before` is when the
-- previous item comes. A text has no findings.
unfoldable pub in_output : (seconds before : Option ℕ) → Data → List Finding
in_output seconds before d =
    if is_some (as_object d) then faults_of output_table d ++ violation_findings (output_violations seconds before d) ++ ignored output_names d else []

-- the second at which an item comes; without `after` it comes at the end of its provisioner
abbrev pub comes_after : (seconds : Option ℕ) → Data → Option ℕ
comes_after seconds d = if is_some (member_at name.After d) then whole_at name.After d else seconds

-- the findings of items; `n` is the number of the first item
abbrev pub outputs_after : (seconds before : Option ℕ) → ℕ → List Data → List Finding
outputs_after seconds before n [] = []
outputs_after seconds before n (d ∷ ds) =
    map (under (Item n)) (in_output seconds before d) ++ outputs_after seconds (comes_after seconds d) (suc n) ds

-- the findings of the items of a provisioner
abbrev pub in_outputs : Data → List Finding
in_outputs d = map (under (Member name.Output)) (outputs_after (whole_at name.Seconds d) None 0 (items_at name.Output d))

-- ---- provisioners

abbrev pub provisioner_table : List MemberRule
provisioner_table = rule name.Provisioner expected.NonEmptyText ∷ rule name.Seconds expected.Seconds ∷ []

abbrev pub provisioner_names : List Name
provisioner_names = name.Provisioner ∷ name.Seconds ∷ name.Output ∷ name.Failed ∷ name.OnFailure ∷ []

-- a provisioner has more than 100 items
abbrev pub provisioner_violation : Data → Violation
provisioner_violation d =
    record { holds = nat_lt max_outputs (length (items_at name.Output d)); at = Some name.Output; problem = problem.TooManyTexts }

unfoldable pub in_provisioner : Data → List Finding
in_provisioner d = where_suits expected.Provisioner d
    (faults_of provisioner_table d
    ++ in_list (λ number. unless_suits expected.Output) (rule name.Output expected.ArrayOrAbsent) d
    ++ violation_findings (provisioner_violation d ∷ [])
    ++ inside in_diagnostic name.Failed d
    ++ ignored provisioner_names d)

-- The findings of `on_failure` and of the members of output items. They come after those of the
-- other members of the step.
unfoldable pub growth_of_provisioner : Data → List Finding
growth_of_provisioner d = faults_of (rule name.OnFailure expected.OnFailure ∷ []) d ++ in_outputs d

-- ---- what a step waits for

abbrev pub wait_table : List MemberRule
wait_table = rule name.Address expected.Text ∷ rule name.Deposed expected.TextOrAbsent ∷ rule name.Step expected.WholeOrAbsent ∷ []

abbrev pub wait_names : List Name
wait_names = name.Address ∷ name.Deposed ∷ name.Step ∷ []

-- a text is only tested for whether the plan changes its object
unfoldable pub in_wait : Option (List ResourceChange) → Data → List Finding
in_wait changes d =
    if is_some (as_str d) then violation_findings (unknown_violations changes d)
    else where_suits expected.Wait d
    (faults_of wait_table d
    ++ violation_findings (unknown_violations changes d)
    ++ violation_findings (missing_step_violation (change_at changes d) (whole_at name.Step d) ∷ [])
    ++ ignored wait_names d)

-- ---- steps

-- a skipped step has no `seconds`, which another rule tests
abbrev pub step_table : (skipped : Bool) → List MemberRule
step_table true = rule name.Id expected.TextOrAbsent ∷ []
step_table false = rule name.Seconds expected.Seconds ∷ rule name.Id expected.TextOrAbsent ∷ []

abbrev pub step_names : List Name
step_names = name.Seconds ∷ name.Id ∷ name.Warning ∷ name.Failed ∷ name.Provisioners ∷ name.Skipped ∷ name.After ∷ []

abbrev pub has_failed : Data → Bool
has_failed d = is_some (member_at name.Failed d)

-- the seconds of a step or of a provisioner; 0 if they are missing or wrong
abbrev pub seconds_in : Data → ℕ
seconds_in d = unwrap_or (whole_at name.Seconds d) 0

-- the seconds of a step, its provisioners included
abbrev pub seconds_in_all : Data → ℕ
seconds_in_all d = seconds_in d + sum_by seconds_in (items_at name.Provisioners d)

-- a member that may not stand next to `failed`
abbrev pub with_failed : Name → Bool → Data → Violation
with_failed name stands d = record { holds = has_failed d && stands; at = Some name; problem = problem.WithFailed }

-- the tests of a step without a look at its change
abbrev pub step_violations : Data → List Violation
step_violations d =
    with_failed name.Id (is_some (non_empty_text_of (name_text name.Id) d)) d
    ∷ with_failed name.Warning (is_some (member_at name.Warning d)) d
    ∷ with_failed name.Provisioners (nat_lt 0 (length (items_at name.Provisioners d))) d
    ∷ record { holds = nat_lt max_seconds (seconds_in_all d); at = None; problem = problem.TooLong }
    ∷ record { holds = nat_lt max_provisioners (length (items_at name.Provisioners d)); at = Some name.Provisioners; problem = problem.TooManyProvisioners }
    ∷ []

-- a member that may not stand next to `skipped`
abbrev pub with_skipped : Name → Bool → Data → Violation
with_skipped name stands d = record { holds = is_skipped d && stands; at = Some name; problem = problem.WithSkipped }

abbrev pub skipped_violations : Data → List Violation
skipped_violations d =
    with_skipped name.Seconds (is_some (member_at name.Seconds d)) d
    ∷ with_skipped name.Id (is_some (non_empty_text_of (name_text name.Id) d)) d
    ∷ with_skipped name.Warning (is_some (member_at name.Warning d)) d
    ∷ with_skipped name.Failed (has_failed d) d
    ∷ with_skipped name.Provisioners (nat_lt 0 (length (items_at name.Provisioners d))) d
    ∷ []

-- the findings of a step; `number` is its place in its change
unfoldable pub in_step : Option (List ResourceChange) → Option ResourceChange → ℕ → Data → List Finding
in_step changes change number d = where_suits expected.Step d
    (faults_of (step_table (is_skipped d)) d
    ++ inside in_diagnostic name.Warning d
    ++ inside in_failure name.Failed d
    ++ in_list (λ number. in_provisioner) (rule name.Provisioners expected.ArrayOrAbsent) d
    ++ violation_findings (step_violations d)
    ++ violation_findings (kind_violations change number d)
    ++ faults_of (rule name.Skipped expected.FlagOrAbsent ∷ []) d
    ++ violation_findings (skipped_violations d)
    ++ inside (in_items (λ number. growth_of_provisioner)) name.Provisioners d
    ++ in_list (λ item. in_wait changes) (rule name.After expected.ArrayOrAbsent) d
    ++ ignored step_names d)

-- ---- entries, and the whole

abbrev pub entry_table : List MemberRule
entry_table = rule name.Address expected.Text ∷ rule name.Deposed expected.TextOrAbsent ∷ []

abbrev pub entry_names : List Name
entry_names = name.Address ∷ name.Deposed ∷ name.Steps ∷ []

-- The findings of an entry. `first` is the number of the first earlier entry about the same change.
-- `left` is how many items of `after` the script may still have.
unfoldable pub in_entry : Option (List ResourceChange) → (first left : Option ℕ) → Data → List Finding
in_entry changes first left d = where_suits expected.Entry d
    (faults_of entry_table d
    ++ violation_findings (unknown_violations changes d)
    ++ violation_findings (repeat_violation (change_at changes d) first ∷ [])
    ++ fault_of d (rule name.Steps expected.Array)
    ++ violation_findings (step_count_violation (change_at changes d) d ∷ [])
    ++ inside (in_items (in_step changes (change_at changes d))) name.Steps d
    ++ beyond_in (is_some changes) left d
    ++ ignored entry_names d)

-- the findings of an entry after others
abbrev pub in_entry_after : Option (List ResourceChange) → List Data → Data → List Finding
in_entry_after changes before d = in_entry changes (named_first before d) (waits_left (sum_by waits_in_all before)) d

-- only a run in Terraform's form looks at `outputs`, `diagnostics` and `planning`
abbrev pub script_names : List Name
script_names = name.Changes ∷ name.Outputs ∷ name.Diagnostics ∷ name.Planning ∷ name.Schema ∷ []

unfoldable pub in_script : Option (List ResourceChange) → Data → List Finding
in_script changes d = where_suits expected.Object d
    (fault_of d (rule name.Changes expected.Array)
    ++ map (under (Member name.Changes)) (items_after (in_entry_after changes) [] (items_at name.Changes d))
    ++ ignored script_names d)
