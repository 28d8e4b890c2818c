-- In the members that only Terraform's form reads, `validate` warns of exactly those that no run
-- reads.
use Rattle.std.proofs.Common.{◌≡◌, ℕ, zero, suc, ◌+◌, List, [], ◌∷◌, ◌++◌, map, slice_get, Option, Some, refl, sym, subst, arith}
use Rattle.serde_json.specs.Data.{Data, Members, no_members, member}
use Rattle.apply_plan_terraform.specs.Outputs.{OutputsOfPlan}
use Rattle.apply_json.specs.ShallowView.{members_in}
use Rattle.input_validate.specs.declared.findings.finding.Finding.{Finding}
use Rattle.input_validate.specs.declared.findings.name.Name.{Name}
use Rattle.input_validate.specs.declared.findings.name.Name.TheVariants as name
use Rattle.input_validate.specs.declared.findings.path.Segment.{Segment}
use Rattle.input_validate.specs.declared.findings.path.Segment.TheVariants.{Item, Member, Other}
use Rattle.input_validate.specs.declared.findings.expected.Expected.TheVariants as expected
use Rattle.input_validate.specs.Extras.{in_extras, in_note, in_plan_output, in_plan_outputs, members_from, note_names, note_table, plan_output_names, plan_output_table, unless_planned}
use Rattle.input_validate.specs.Findings.{under}
use Rattle.input_validate.specs.Rules.{fault_of, faults_of, in_list, inside, rule, ignored, where_suits}
use Rattle.laws_validate.specs.Paths.{values_in}
use Rattle.laws_validate.specs.IgnoredMembers.{warning_at}
use Rattle.laws_validate.proofs.ScriptsWarn.{in_list_warns, warns_in}
use Rattle.laws_validate.proofs.Warning.{Has, Warns, has_left, has_right, has_under, inside_warns, item_value, same_some, unread_warns, warns_part}

from_members : (findings : List ℕ → Data → List Finding) (x : Finding) (e : Data) → ((text : List ℕ) → Has x (findings text e)) → (m : ℕ) (ms : Members) (i : ℕ) → slice_get (values_in ms) i ≡ Some e
    → Has (under (Other (m + i)) x) (members_from findings m ms)
from_members findings x e h m no_members i is = absurd cc
from_members findings x e h m (member text d ms) zero is =
    let here : Has (under (Other m) x) (map (under (Other m)) (findings text d)) =
    has_under (Other m) x (findings text d) (subst (λ (v : Data). Has x (findings text v)) (sym (same_some d e is)) (h text)) in
    has_left (under (Other (m + 0)) x) (map (under (Other m)) (findings text d)) (members_from findings (suc m) ms)
    (subst (λ (k : ℕ). Has (under (Other k) x) (map (under (Other m)) (findings text d))) (let q : m ≡ m + 0 = omega arith in q) here)
from_members findings x e h m (member text d ms) (suc i) is =
    has_right (under (Other (m + suc i)) x) (map (under (Other m)) (findings text d)) (members_from findings (suc m) ms)
    (subst (λ (k : ℕ). Has (under (Other k) x) (members_from findings (suc m) ms)) (let q : suc m + i ≡ m + suc i = omega arith in q) (from_members findings x e h (suc m) ms i is))

members_warn : (front : List Segment) (names : List Name) (findings : List ℕ → Data → List Finding) (d : Data) → ((text : List ℕ) (e : Data) → Warns front names e (findings text e))
    → (i : ℕ) → Warns (Other i ∷ front) names d (members_from findings 0 (members_in d))
members_warn front names findings d h i value n text is has unknown =
    let member_there = item_value front (slice_get (values_in (members_in d)) i) value is in
    let x : Finding = warning_at (front ++ Other n ∷ []) in
    subst (λ (k : ℕ). Has (under (Other k) x) (members_from findings 0 (members_in d))) (let q : 0 + i ≡ i = omega arith in q)
    (from_members findings x member_there.0 (λ at. h at member_there.0 value n text member_there.2 has unknown) 0 (members_in d) i member_there.1)

plan_output_warns : (plan : Option OutputsOfPlan) (text : List ℕ) (d : Data) → Warns [] plan_output_names d (in_plan_output plan text d)
unfolding in_plan_output
plan_output_warns plan text d =
    warns_part [] plan_output_names d (where_suits expected.PlanOutput d (faults_of plan_output_table d)) (unless_planned plan text ∷ ignored plan_output_names d ∷ []) 1 (ignored plan_output_names d) refl
    (unread_warns plan_output_names d)

note_warns : (d : Data) → Warns [] note_names d (in_note d)
unfolding in_note
note_warns d = warns_in [] note_names expected.Note d (faults_of note_table d) (ignored note_names d ∷ []) 0 (ignored note_names d) refl (λ o. o) refl (unread_warns note_names d)

abbrev extras_parts : Option OutputsOfPlan → Data → List (List Finding)
extras_parts plan d = inside (in_plan_outputs plan) name.Outputs d ∷ in_list (λ number. in_note) (rule name.Diagnostics expected.ArrayOrAbsent) d ∷ []

pub outputs_warn : (plan : Option OutputsOfPlan) (d : Data) (n : ℕ) → Warns (Member name.Outputs ∷ Other n ∷ []) plan_output_names d (in_extras plan d)
unfolding in_extras
outputs_warn plan d n =
    warns_part (Member name.Outputs ∷ Other n ∷ []) plan_output_names d (fault_of d (rule name.Outputs expected.ObjectOrAbsent)) (extras_parts plan d) 0 (inside (in_plan_outputs plan) name.Outputs d) refl
    (inside_warns (Other n ∷ []) plan_output_names (in_plan_outputs plan) name.Outputs d (λ all. members_warn [] plan_output_names (in_plan_output plan) all (plan_output_warns plan) n))

pub notes_warn : (plan : Option OutputsOfPlan) (d : Data) (n : ℕ) → Warns (Member name.Diagnostics ∷ Item n ∷ []) note_names d (in_extras plan d)
unfolding in_extras
notes_warn plan d n =
    warns_part (Member name.Diagnostics ∷ Item n ∷ []) note_names d (fault_of d (rule name.Outputs expected.ObjectOrAbsent)) (extras_parts plan d) 1
    (in_list (λ number. in_note) (rule name.Diagnostics expected.ArrayOrAbsent) d) refl
    (in_list_warns [] note_names (λ number. in_note) name.Diagnostics expected.ArrayOrAbsent d (λ m e. note_warns e) n)
