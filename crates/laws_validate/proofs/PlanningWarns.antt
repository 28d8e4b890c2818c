-- In `planning`, `validate` warns of exactly those members that no run reads.
use Rattle.std.proofs.Common.{ℕ, List, [], ◌∷◌, map, Option, refl}
use Rattle.serde_json.specs.Data.{Data}
use Rattle.apply_model.specs.Plan.ResourceChange.{ResourceChange}
use Rattle.input_validate.specs.declared.findings.finding.Finding.{Finding}
use Rattle.input_validate.specs.declared.findings.name.Name.{Name}
use Rattle.input_validate.specs.declared.findings.name.Name.TheVariants as name
use Rattle.input_validate.specs.declared.findings.path.Segment.{Segment}
use Rattle.input_validate.specs.declared.findings.path.Segment.TheVariants.{Item, Member}
use Rattle.input_validate.specs.declared.findings.expected.Expected.TheVariants as expected
use Rattle.input_validate.specs.Findings.{under}
use Rattle.input_validate.specs.PlanFindings.{first_named}
use Rattle.input_validate.specs.Planning.{again_violation, failed_violations, in_planned, in_planned_after, in_planned_members, in_planning, planned_name, planned_names, planned_table, planning_violation, skipped_gone, skipped_id, skipped_seconds, violations_in}
use Rattle.input_validate.specs.Rules.{fault_of, faults_of, ignored, inside, items_after, items_at, rule, violation_findings}
use Rattle.input_validate.specs.ScriptFindings.{failure_names, in_failure}
use Rattle.laws_validate.proofs.ScriptsWarn.{failure_warns, warns_in}
use Rattle.laws_validate.proofs.Warning.{Warns, after_warn, inside_warns, listed_warns, unread_warns, warns_part}

-- an entry has these warnings, whatever the plan knows
abbrev WarnsEntry : List Segment → List Name → Type 0
WarnsEntry front names = (objects : Option (List ResourceChange)) (first : Option ℕ) (d : Data) → Warns front names d (in_planned objects first d)

abbrev last_parts : Option (List ResourceChange) → Option ℕ → Data → List (List Finding)
last_parts objects first d = violation_findings (violations_in objects d) ∷ violation_findings (again_violation first ∷ []) ∷ ignored planned_names d ∷ []

entry_warns : WarnsEntry [] planned_names
unfolding in_planned
entry_warns objects first d =
    warns_in [] planned_names expected.Planned d (in_planned_members d) (last_parts objects first d) 2 (ignored planned_names d) refl (λ o. o) refl (unread_warns planned_names d)

failed_warns : WarnsEntry (Member name.Failed ∷ []) failure_names
unfolding in_planned in_planned_members
failed_warns objects first d =
    warns_in (Member name.Failed ∷ []) failure_names expected.Planned d (faults_of planned_table d)
    (violation_findings (skipped_seconds d ∷ []) ∷ fault_of d (rule name.Id expected.TextOrAbsent) ∷ violation_findings (skipped_id d ∷ [])
    ∷ inside in_failure name.Failed d ∷ violation_findings (failed_violations d) ∷ fault_of d (rule name.Gone expected.FlagOrAbsent)
    ∷ violation_findings (skipped_gone d ∷ []) ∷ fault_of d (rule name.Skipped expected.FlagOrAbsent) ∷ last_parts objects first d)
    3 (inside in_failure name.Failed d) refl (λ o. o) refl (inside_warns [] failure_names in_failure name.Failed d failure_warns)

entries_warn : (front : List Segment) (names : List Name) → WarnsEntry front names → (objects : Option (List ResourceChange)) (d : Data) (n : ℕ)
    → Warns (Member name.Planning ∷ Item n ∷ front) names d (in_planning objects d)
unfolding in_planning
entries_warn front names h objects d n =
    let entries : List Finding = map (under (Member name.Planning)) (items_after (in_planned_after objects) [] (items_at name.Planning d)) in
    warns_part (Member name.Planning ∷ Item n ∷ front) names d (fault_of d (rule name.Planning expected.ArrayOrAbsent)) (violation_findings (planning_violation d ∷ []) ∷ entries ∷ []) 1 entries refl
    (listed_warns (Item n ∷ front) names (λ ds. items_after (in_planned_after objects) [] ds) name.Planning d (λ list.
    after_warn front names (in_planned_after objects) list (λ before e. h objects (first_named (map planned_name before) (planned_name e)) e) n))

pub planned_warn : (objects : Option (List ResourceChange)) (d : Data) (n : ℕ) → Warns (Member name.Planning ∷ Item n ∷ []) planned_names d (in_planning objects d)
planned_warn = entries_warn [] planned_names entry_warns

pub failures_warn : (objects : Option (List ResourceChange)) (d : Data) (n : ℕ) → Warns (Member name.Planning ∷ Item n ∷ Member name.Failed ∷ []) failure_names d (in_planning objects d)
failures_warn = entries_warn (Member name.Failed ∷ []) failure_names failed_warns
