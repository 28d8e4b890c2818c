-- Findings of a plan stand at their places, and none of them is a warning.
use Rattle.std.proofs.Common.{◌≡◌, ℕ, List, [], ◌∷◌, length, map, Bool, true, false, not, is_some, Option, Some, None, if◌then◌else◌, refl}
use Rattle.std.specs.Prelude.{nat_lt}
use Rattle.std.specs.List.{AllByRecursion}
use Rattle.std.specs.Option.{option_and_then, option_map_or}
use Rattle.std.proofs.lemmas.Bool.{and_parts}
use Rattle.serde_json.specs.Data.{Data}
use Rattle.serde_json.specs.Find.{as_array, get}
use Rattle.apply_json.specs.ShallowView.{items_in}
use Rattle.apply_json.specs.Tree.{list_of, text_of, text_or}
use Rattle.apply_model.specs.Plan.SavedPlan.{max_changes}
use Rattle.input_validate.specs.declared.findings.name.Name.{Name}
use Rattle.input_validate.specs.declared.findings.name.Name.TheVariants as name
use Rattle.input_validate.specs.declared.findings.path.Segment.{Segment}
use Rattle.input_validate.specs.declared.findings.path.Segment.TheVariants.{Item, Member}
use Rattle.input_validate.specs.declared.findings.expected.Expected.TheVariants as expected
use Rattle.input_validate.specs.declared.findings.problem.Problem.TheVariants as problem
use Rattle.input_validate.specs.Findings.{finding_at, under}
use Rattle.input_validate.specs.Names.{name_text}
use Rattle.input_validate.specs.PlanFindings.{actions_violation, address_violations, element_table, first_named, has_empty_address, header_table, in_change, in_element, in_elements, in_plan, is_misplaced, is_one_of_eight, misplaces, name_of, named_again}
use Rattle.input_validate.specs.Rules.{items_at, items_after, rule, member_at}
use Rattle.laws_validate.proofs.ViolationPlaces.{HasPlace, holding_some, member_leads, of_violations, then_some, there, there_items, there_text}
use Rattle.laws_validate.proofs.Placing.{AreRight, after_right, below, listed_right, object_right, of_table, where_right, whole_there, within_member}

misplaced_text : (address module_address : Option (List ℕ)) → is_misplaced address module_address ≡ true → is_some address ≡ true
misplaced_text None module_address e = absurd cc
misplaced_text (Some address) module_address e = refl

misplaced : (d : Data) → misplaces d ≡ true → is_some (get (name_text name.Address) d) ≡ true
misplaced d e = there_text name.Address d (misplaced_text (text_of (name_text name.Address) d) (text_or [] (member_at name.ModuleAddress d)) e)

actions_there : (d : Data) → option_map_or (λ actions. not (is_one_of_eight actions)) (option_and_then as_array (member_at name.Actions d)) false ≡ true
    → is_some (get (name_text name.Actions) d) ≡ true
actions_there d e =
    there name.Actions d (then_some as_array (member_at name.Actions d) (holding_some (λ actions. not (is_one_of_eight actions)) (option_and_then as_array (member_at name.Actions d)) e))

change_right : (R : List Segment → List Name → Type 0) (d : Data) → AreRight R d (in_change d)
unfolding in_change
change_right R d = object_right R d (of_table R (rule name.Actions expected.Array ∷ []) d) (of_violations R d (actions_violation d ∷ []) ((refl, actions_there d), tt) ∷ [])

again_right : (R : List Segment → List Name → Type 0) (d : Data) (o : Option ℕ) → AreRight R d (named_again o)
again_right R d None = tt
again_right R d (Some n) = (refl, tt)

address_places : (d : Data) → AllByRecursion (HasPlace d) (address_violations d)
address_places d = (
  (refl, λ h. misplaced d (and_parts (misplaces d) (has_empty_address d) h).0),
  ((refl, λ h. misplaced d (and_parts (misplaces d) (not (has_empty_address d)) h).0), tt),
)

element_right : (R : List Segment → List Name → Type 0) (before : List Data) (d : Data) → AreRight R d (in_element before d)
element_right R before d =
    let again : Option ℕ = first_named (map name_of before) (name_of d) in
    where_right R expected.Object d (λ o. o) (of_table R element_table d)
    (within_member R in_change name.Change d (change_right (below (Member name.Change) R))
    ∷ of_violations R d (address_violations d) (address_places d)
    ∷ (named_again again, λ o. again_right R d again)
    ∷ [])

elements_by : (R : List Segment → List Name → Type 0) (d : Data) (b : Bool) → nat_lt max_changes (length (items_at name.ResourceChanges d)) ≡ b
    → AreRight R d (if b then finding_at (Member name.ResourceChanges) problem.TooManyChanges ∷ [] else map (under (Member name.ResourceChanges)) (items_after in_element [] (items_at name.ResourceChanges d)))
elements_by R d true e = (member_leads name.ResourceChanges d (there_items name.ResourceChanges d max_changes e), tt)
elements_by R d false e =
    listed_right R name.ResourceChanges d (items_after in_element []) refl
    (λ list. after_right (below (Member name.ResourceChanges) R) in_element list
    (λ before n element. element_right (below (Item n) (below (Member name.ResourceChanges) R)) before element) [] (list_of (items_in list)) (whole_there (list_of (items_in list))))

pub plan_right : (R : List Segment → List Name → Type 0) (d : Data) → AreRight R d (in_plan d)
unfolding in_plan
plan_right R d =
    where_right R expected.Plan d (λ o. o) (of_table R header_table d)
    ((in_elements (items_at name.ResourceChanges d), λ o. elements_by R d (nat_lt max_changes (length (items_at name.ResourceChanges d))) refl) ∷ [])
