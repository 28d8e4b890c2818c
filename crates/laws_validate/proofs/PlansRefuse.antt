-- A run refuses a plan for each of its findings.
use Rattle.std.proofs.Common.{ℕ, List, [], ◌∷◌, ◌++◌, length, map, true, is_some, Option, Some, None, refl}
use Rattle.std.specs.Prelude.{nat_lt}
use Rattle.serde_json.specs.Data.{Data}
use Rattle.serde_json.specs.Find.{as_object}
use Rattle.apply_model.specs.Plan.SavedPlan.{max_changes}
use Rattle.input_validate.specs.declared.findings.expected.Expected.TheVariants as expected
use Rattle.input_validate.specs.declared.findings.name.Name.TheVariants as name
use Rattle.input_validate.specs.declared.findings.path.Segment.TheVariants.{Member}
use Rattle.input_validate.specs.declared.findings.problem.Problem.TheVariants.{TooManyChanges}
use Rattle.input_validate.specs.Findings.{finding_at, under}
use Rattle.input_validate.specs.PlanFindings.{actions_violation, address_violations, by_itself, element_table, first_named, header_table, in_change, in_element, in_elements, in_plan, name_of, named_again}
use Rattle.input_validate.specs.Rules.{faults_of, inside, items_after, items_at, rule, violation_findings}
use Rattle.laws_validate.proofs.AllRefuse.{AreAll, both_all, choice_all, faults_refuse, inside_all, items_after_all, suits_refuse, under_all, violations_all}

change_refuses : (d : Data) → AreAll true (in_change d)
unfolding in_change
change_refuses d =
    choice_all true (is_some (as_object d)) (faults_of (rule name.Actions expected.Array ∷ []) d ++ violation_findings (actions_violation d ∷ [])) []
    (both_all true (faults_of (rule name.Actions expected.Array ∷ []) d) (violation_findings (actions_violation d ∷ []))
    (faults_refuse (rule name.Actions expected.Array ∷ []) d) (violations_all true (actions_violation d ∷ []) (refl, tt)))
    tt

again_refuses : (o : Option ℕ) → AreAll true (named_again o)
again_refuses None = tt
again_refuses (Some n) = (refl, tt)

itself_refuses : (d : Data) → AreAll true (by_itself d)
itself_refuses d =
    both_all true (faults_of element_table d ++ inside in_change name.Change d) (violation_findings (address_violations d))
    (both_all true (faults_of element_table d) (inside in_change name.Change d) (faults_refuse element_table d) (inside_all true in_change change_refuses name.Change d))
    (violations_all true (address_violations d) (refl, (refl, tt)))

element_refuses : (before : List Data) (d : Data) → AreAll true (in_element before d)
element_refuses before d =
    let again = named_again (first_named (map name_of before) (name_of d)) in
    suits_refuse expected.Object d (by_itself d ++ again)
    (both_all true (by_itself d) again (itself_refuses d) (again_refuses (first_named (map name_of before) (name_of d))))

elements_refuse : (elements : List Data) → AreAll true (in_elements elements)
elements_refuse elements =
    choice_all true (nat_lt max_changes (length elements)) (finding_at (Member name.ResourceChanges) TooManyChanges ∷ []) (map (under (Member name.ResourceChanges)) (items_after in_element [] elements))
    (refl, tt) (under_all true (Member name.ResourceChanges) (items_after in_element [] elements) (items_after_all true in_element element_refuses [] elements))

pub plan_refuses : (d : Data) → AreAll true (in_plan d)
unfolding in_plan
plan_refuses d =
    let elements = items_at name.ResourceChanges d in
    suits_refuse expected.Plan d (faults_of header_table d ++ in_elements elements)
    (both_all true (faults_of header_table d) (in_elements elements) (faults_refuse header_table d) (elements_refuse elements))
