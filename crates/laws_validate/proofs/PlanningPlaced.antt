-- Findings of `planning` stand at their places.
use Rattle.std.proofs.Common.{◌≡◌, ℕ, List, [], ◌∷◌, ◌++◌, length, map, Bool, true, false, is_some, Option, Some, None, refl}
use Rattle.std.specs.Prelude.{is_none, nat_lt}
use Rattle.std.specs.List.{AllByRecursion}
use Rattle.std.specs.Option.{option_and_then, option_map_or}
use Rattle.std.proofs.lemmas.Bool.{and_parts}
use Rattle.serde_json.specs.Data.{Data}
use Rattle.serde_json.specs.Find.{as_bool, as_object, get}
use Rattle.apply_json.specs.ShallowView.{items_in}
use Rattle.apply_json.specs.Tree.{◌>>=◌, list_of, non_empty_text_of, text_or, tree_of, unless_empty}
use Rattle.apply_model.specs.Plan.ResourceChange.{ResourceChange}
use Rattle.apply_plan.specs.Bytes.{max_bytes}
use Rattle.input_validate.specs.declared.findings.finding.Finding.{Finding}
use Rattle.input_validate.specs.declared.findings.name.Name.{Name}
use Rattle.input_validate.specs.declared.findings.name.Name.TheVariants as name
use Rattle.input_validate.specs.declared.findings.path.Segment.{Segment}
use Rattle.input_validate.specs.declared.findings.path.Segment.TheVariants.{Item, Member}
use Rattle.input_validate.specs.declared.findings.expected.Expected.TheVariants as expected
use Rattle.input_validate.specs.AgainstPlan.{only_warns}
use Rattle.input_validate.specs.Findings.{under}
use Rattle.input_validate.specs.Names.{name_text}
use Rattle.input_validate.specs.ObjectNames.{Named}
use Rattle.input_validate.specs.PlanFindings.{first_named}
use Rattle.input_validate.specs.Planning.{again_violation, failed_violations, in_planned, in_planned_after, in_planned_members, in_planning, is_read, is_refreshed, max_planned, mode_of_entry, planned_name, planned_names, planned_table, planning_findings, planning_violation, skipped_gone, skipped_id, skipped_seconds, violations_in}
use Rattle.input_validate.specs.Rules.{fault_of, faults_of, is_set, items_after, items_at, member_at, rule, violation_findings}
use Rattle.input_validate.specs.ScriptFindings.{failure_names, has_failed, in_failure, is_skipped}
use Rattle.laws_validate.proofs.BytesPlaced.{AreReported}
use Rattle.laws_validate.proofs.ExtrasPlaced.{extras_by}
use Rattle.laws_validate.proofs.Placing.{AreRight, after_right, below, both, faults_right, joined_right, listed_right, of_member, of_unread, optional_right, where_right, whole_there, within_member}
use Rattle.laws_validate.proofs.ScriptsPlaced.{failure_right}
use Rattle.laws_validate.proofs.ViolationPlaces.{HasPlace, bound_some, holding_some, of_violations, then_some, there, there_items, there_non_empty, violations_right}

-- a member that is `true` is there
set_there : (n : Name) (d : Data) → is_set n d ≡ true → is_some (get (name_text n) d) ≡ true
set_there n d e = there n d (then_some as_bool (member_at n d) (holding_some (λ (flag : Bool). flag) (option_and_then as_bool (member_at n d)) e))

members_right : (R : List Segment → List Name → Type 0) → R (Member name.Failed ∷ []) failure_names → (d : Data) → is_some (as_object d) ≡ true → AreRight R d (in_planned_members d)
unfolding in_planned_members
members_right R failed d o =
    joined_right R d o (faults_of planned_table d) (faults_right R planned_table d o)
    (of_violations R d (skipped_seconds d ∷ []) ((refl, λ h. there name.Seconds d (and_parts (is_skipped d) (is_some (member_at name.Seconds d)) h).1), tt)
    ∷ of_member R (rule name.Id expected.TextOrAbsent) d
    ∷ of_violations R d (skipped_id d ∷ []) ((refl, λ h. there_non_empty name.Id d (and_parts (is_skipped d) (is_some (non_empty_text_of (name_text name.Id) d)) h).1), tt)
    ∷ within_member R in_failure name.Failed d (failure_right (below (Member name.Failed) R) failed)
    ∷ of_violations R d (failed_violations d)
    ((refl, λ h. there name.Failed d (and_parts (is_set name.Gone d) (has_failed d) h).1), ((refl, λ h. there name.Failed d (and_parts (is_skipped d) (has_failed d) h).1), tt))
    ∷ of_member R (rule name.Gone expected.FlagOrAbsent) d
    ∷ of_violations R d (skipped_gone d ∷ []) ((refl, λ h. set_there name.Gone d (and_parts (is_skipped d) (is_set name.Gone d) h).1), tt)
    ∷ of_member R (rule name.Skipped expected.FlagOrAbsent) d
    ∷ [])

abbrev named_by : Data → List ℕ → Option Named
named_by d address = text_or [] (member_at name.Deposed d) >>= λ deposed. Some (address, unless_empty deposed)

object_places : (objects : Option (List ResourceChange)) (d : Data) → AllByRecursion (HasPlace d) (violations_in objects d)
object_places None d = tt
object_places (Some objects) d =
    let read : Bool = option_map_or is_read (mode_of_entry objects d) false in (
      (refl, λ h. there_non_empty name.Address d (bound_some (named_by d) (non_empty_text_of (name_text name.Address) d) (and_parts (is_some (planned_name d)) (is_none (mode_of_entry objects d)) h).0)),
      (
        (refl, λ h. there_non_empty name.Deposed d (and_parts read (is_some (non_empty_text_of (name_text name.Deposed) d)) h).1),
        (
          (refl, λ h. set_there name.Gone d (and_parts read (is_set name.Gone d) h).1),
          (
            (refl, λ h. there name.Failed d (holding_some _ (member_at name.Failed d) (and_parts (option_map_or is_refreshed (mode_of_entry objects d) false) (only_warns d) h).1)),
            tt,
          ),
        ),
      ),
    )

planned_right : (R : List Segment → List Name → Type 0) → R [] planned_names → R (Member name.Failed ∷ []) failure_names → (objects : Option (List ResourceChange)) (first : Option ℕ) (d : Data)
    → AreRight R d (in_planned objects first d)
unfolding in_planned
planned_right R itself failed objects first d =
    where_right R expected.Planned d (λ o. o) (in_planned_members d, λ o. members_right R failed d o)
    (of_violations R d (violations_in objects d) (object_places objects d)
    ∷ of_violations R d (again_violation first ∷ []) ((refl, λ h. refl), tt)
    ∷ of_unread R planned_names d itself
    ∷ [])

planning_right : (R : List Segment → List Name → Type 0) → ((n : ℕ) → R (Member name.Planning ∷ Item n ∷ []) planned_names) → ((n : ℕ) → R (Member name.Planning ∷ Item n ∷ Member name.Failed ∷ []) failure_names)
    → (objects : Option (List ResourceChange)) (d : Data) → AreRight R d (in_planning objects d)
unfolding in_planning
planning_right R itself failed objects d =
    let own : List Finding = fault_of d (rule name.Planning expected.ArrayOrAbsent) in
    let many : List Finding = violation_findings (planning_violation d ∷ []) in
    both R d (own ++ many) (map (under (Member name.Planning)) (items_after (in_planned_after objects) [] (items_at name.Planning d)))
    (both R d own many (optional_right R (rule name.Planning expected.ArrayOrAbsent) d refl)
    (violations_right R d (planning_violation d ∷ []) ((refl, λ h. there_items name.Planning d max_planned h), tt)))
    (listed_right R name.Planning d (λ ds. items_after (in_planned_after objects) [] ds) refl (λ list.
    after_right (below (Member name.Planning) R) (in_planned_after objects) list (λ before m e.
    planned_right (below (Item m) (below (Member name.Planning) R)) (itself m) (failed m) objects (first_named (map planned_name before) (planned_name e)) e)
    [] (list_of (items_in list)) (whole_there (list_of (items_in list)))))

pub planning_reported : (R : List Segment → List Name → Type 0) → ((n : ℕ) → R (Member name.Planning ∷ Item n ∷ []) planned_names) → ((n : ℕ) → R (Member name.Planning ∷ Item n ∷ Member name.Failed ∷ []) failure_names)
    → (objects : Option (List ResourceChange)) (bytes : List ℕ) → AreReported R (tree_of bytes) (planning_findings objects bytes)
planning_reported R itself failed objects bytes =
    extras_by R (in_planning objects) (nat_lt max_bytes (length bytes)) (tree_of bytes) (planning_right R itself failed objects)
