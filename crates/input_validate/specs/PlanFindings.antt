-- Findings of a plan. All paths start at the value.
use Rattle.std.specs.Prelude.{ℕ, List, [], ◌∷◌, ◌++◌, length, map, Bool, false, ◌&&◌, not, is_none, is_some, nat_lt, if◌then◌else◌, Option, Some, None, option_and_then}
use Rattle.std.specs.List.{list_any, position_from}
use Rattle.std.specs.Option.{option_map_or}
use Rattle.serde_json.specs.Data.{Data, Items}
use Rattle.serde_json.specs.Find.{as_array, as_object}
use Rattle.apply_json.specs.Tree.{◌>>=◌, is_empty, text_of, text_or, unless_empty}
use Rattle.apply_model.specs.Plan.Address.{relative_address}
use Rattle.apply_model.specs.Plan.SavedPlan.{max_changes}
use Rattle.apply_resolve.specs.ObjectName.{name_one_object}
use Rattle.apply_plan.specs.Plan.Steps.{steps_of_actions}
use Rattle.input_validate.specs.declared.findings.finding.Finding.{Finding}
use Rattle.input_validate.specs.declared.findings.name.Name.TheVariants as name
use Rattle.input_validate.specs.declared.findings.path.Segment.TheVariants.{Member}
use Rattle.input_validate.specs.declared.findings.expected.Expected.TheVariants as expected
use Rattle.input_validate.specs.declared.findings.problem.Problem.TheVariants as problem
use Rattle.input_validate.specs.declared.rules.rule.MemberRule.{MemberRule}
use Rattle.input_validate.specs.declared.rules.violation.Violation.{Violation}
use Rattle.input_validate.specs.Findings.{finding_at, finding_here, is_refusal, under}
use Rattle.input_validate.specs.Names.{name_text}
use Rattle.input_validate.specs.Rules.{faults_of, inside, items_at, items_after, rule, violation_findings, member_at, where_suits}

-- ---- elements of `resource_changes`

abbrev pub element_table : List MemberRule
element_table =
    rule name.Address expected.Text ∷ rule name.ModuleAddress expected.TextOrAbsent ∷ rule name.Mode expected.Mode
    ∷ rule name.Kind expected.NonEmptyText ∷ rule name.Name expected.NonEmptyText ∷ rule name.Index expected.Key
    ∷ rule name.Deposed expected.TextOrAbsent ∷ rule name.Change expected.Object ∷ []

-- a list of actions is one of the eight
abbrev pub is_one_of_eight : Items → Bool
is_one_of_eight actions = is_some (steps_of_actions actions)

-- `actions` is an array, but none of the eight lists
abbrev pub actions_violation : Data → Violation
actions_violation d = record {
  holds = option_map_or (λ actions. not (is_one_of_eight actions)) (option_and_then as_array (member_at name.Actions d)) false;
  at = Some name.Actions;
  problem = problem.BadActions;
}

-- the findings of the member `change`, if it is an object
unfoldable pub in_change : Data → List Finding
in_change d =
    if is_some (as_object d) then faults_of (rule name.Actions expected.Array ∷ []) d ++ violation_findings (actions_violation d ∷ []) else []

-- the address is outside its module
abbrev pub is_misplaced : Option (List ℕ) → Option (List ℕ) → Bool
is_misplaced None module_address = false
is_misplaced (Some address) None = false
is_misplaced (Some address) (Some module_address) = is_none (relative_address module_address address)

abbrev pub misplaces : Data → Bool
misplaces d = is_misplaced (text_of (name_text name.Address) d) (text_or [] (member_at name.ModuleAddress d))

abbrev pub has_empty_address : Data → Bool
has_empty_address d = option_map_or is_empty (text_of (name_text name.Address) d) false

-- the address is empty, or outside its module
abbrev pub address_violations : Data → List Violation
address_violations d =
    record { holds = misplaces d && has_empty_address d; at = Some name.Address; problem = problem.EmptyAddress }
    ∷ record { holds = misplaces d && not (has_empty_address d); at = Some name.Address; problem = problem.OutsideModule }
    ∷ []

-- the findings of an element that is an object, without a look at other elements
abbrev pub by_itself : Data → List Finding
by_itself d = faults_of element_table d ++ inside in_change name.Change d ++ violation_findings (address_violations d)

-- the object that a value names by its `address` and its `deposed`
abbrev pub name_read : Data → Option (List ℕ × Option (List ℕ))
name_read d = do
  address ← text_of (name_text name.Address) d
  deposed ← text_or [] (member_at name.Deposed d)
  Some (address, unless_empty deposed)

-- the element alone has no error
abbrev pub is_sound : Data → Bool
is_sound d = is_some (as_object d) && not (list_any is_refusal (by_itself d))

-- the object that an element names; an element with an error names none
abbrev pub name_of : Data → Option (List ℕ × Option (List ℕ))
name_of d = if is_sound d then name_read d else None

abbrev pub is_named : List ℕ × Option (List ℕ) → Option (List ℕ × Option (List ℕ)) → Bool
is_named name earlier = option_map_or (λ other. name_one_object other.0 other.1 name.0 name.1) earlier false

-- the number of the first of these values that names the object
abbrev pub first_named : List (Option (List ℕ × Option (List ℕ))) → Option (List ℕ × Option (List ℕ)) → Option ℕ
first_named earlier name = option_and_then (λ it. position_from (is_named it) 0 earlier) name

-- an earlier element names the same object
abbrev pub named_again : Option ℕ → List Finding
named_again number = option_map_or (λ n. finding_here (problem.NamedBefore n) ∷ []) number []

-- the findings of an element after others that name these objects
abbrev pub in_element_named : List (Option (List ℕ × Option (List ℕ))) → Data → List Finding
in_element_named earlier d = where_suits expected.Object d (by_itself d ++ named_again (first_named earlier (name_of d)))

-- the findings of an element after others
abbrev pub in_element : List Data → Data → List Finding
in_element before d = in_element_named (map name_of before) d

-- ---- the whole

abbrev pub header_table : List MemberRule
header_table = rule name.FormatVersion expected.FormatVersion ∷ rule name.TerraformVersion expected.TextOrAbsent ∷ rule name.ResourceChanges expected.ArrayOrAbsent ∷ []

-- the findings of all elements; if there are too many, only that is reported
abbrev pub in_elements : List Data → List Finding
in_elements elements =
    if nat_lt max_changes (length elements) then finding_at (Member name.ResourceChanges) problem.TooManyChanges ∷ []
    else map (under (Member name.ResourceChanges)) (items_after in_element [] elements)

unfoldable pub in_plan : Data → List Finding
in_plan d = where_suits expected.Plan d (faults_of header_table d ++ in_elements (items_at name.ResourceChanges d))
