-- The plan of a tree, by the slots of its top level.
use Rattle.std.proofs.Common.{◌≡◌, ℕ, Bool, true, false, cond, ltb, List, codes, nat_eq, Option, Some, None, Result, Ok, Err, refl, sym, ap, ◌∙◌}
use Rattle.std.specs.List.{starts_with}
use Rattle.serde_json.specs.Data.{Data, null, boolean, number, string, array, object, Items}
use Rattle.serde_json.specs.Events.{items_len}
use Rattle.serde_json.specs.Find.{get_member}
use Rattle.apply_json.specs.ShallowView.{members_in}
use Rattle.apply_json.specs.Tree.{◌>>=◌, items_or_empty, list_of, member_of, text_of, text_or, unless_null}
use Rattle.apply_json.proofs.Held.{member_in, text_in, text_or_in}
use Rattle.apply_model.specs.Plan.ResourceChange.{ResourceChange}
use Rattle.apply_model.specs.Plan.SavedPlan.{SavedPlan, max_changes}
use Rattle.apply_plan.specs.declared.plan.plan_error.PlanError.{PlanError}
use Rattle.apply_plan.specs.declared.plan.plan_error.PlanError.TheVariants.{NotAPlan, TooMany}
use Rattle.apply_plan.specs.declared.plan.plan_slots.PlanSlots.{PlanSlots}
use Rattle.apply_plan.specs.Plan.ElementsView.{HoldsPlan, changes_within, items_at, kind_of, may_list, version_read}
use Rattle.apply_plan.specs.Plan.Header.{Header, header_of}
use Rattle.apply_plan.specs.Plan.SavedPlan.{changes_of, plan_of_tree}
use Rattle.apply_plan.specs.Results as results
use Rattle.apply_plan.specs.Results.{or_refuse}
use Rattle.apply_plan.proofs.ListReading.{items_len-list_of, items_of-list_of}
use Rattle.apply_plan.proofs.Plans.WholeList.{changes_one_by_one}

abbrev top : Items → List ℕ → Header
top elements version = record { version = version; elements = elements }

elements_are : (o : Option Data) → items_or_empty (o >>= unless_null) ≡ cond (may_list (kind_of o)) (Some (items_at o)) None
elements_are None = refl
elements_are (Some null) = refl
elements_are (Some (boolean b)) = refl
elements_are (Some (number n)) = refl
elements_are (Some (string t)) = refl
elements_are (Some (array ds)) = refl
elements_are (Some (object ms)) = refl

-- the top level, from its members
abbrev from_members : (format version : Option (List ℕ)) → Option Items → Option Header
from_members format version elements =
    format >>= λ format. (version >>= λ version. (elements >>= λ elements. cond (starts_with nat_eq format (codes "1.")) (Some (top elements version)) None))

abbrev version_from : (format version : Option (List ℕ)) → Bool → Option (List ℕ)
version_from format version may = format >>= λ format. (version >>= λ version. cond may (cond (starts_with nat_eq format (codes "1.")) (Some version) None) None)

abbrev with_elements : Items → Option (List ℕ) → Option Header
with_elements elements None = None
with_elements elements (Some version) = Some (top elements version)

known : (b : Bool) (elements : Items) (version : List ℕ) → cond b (Some (top elements version)) None ≡ with_elements elements (cond b (Some version) None)
known true elements version = refl
known false elements version = refl

top_is : (format version : Option (List ℕ)) (may : Bool) (elements : Items) → from_members format version (cond may (Some elements) None) ≡ with_elements elements (version_from format version may)
top_is None version may elements = refl
top_is (Some format) None may elements = refl
top_is (Some format) (Some version) true elements = known (starts_with nat_eq format (codes "1.")) elements version
top_is (Some format) (Some version) false elements = refl

header_is : (slots : PlanSlots) (d : Data) → HoldsPlan slots (members_in d) → header_of d ≡ with_elements (items_at (get_member (codes "resource_changes") (members_in d))) (version_read slots)
unfolding header_of
header_is slots d holds =
    let located = get_member (codes "resource_changes") (members_in d) in
    rw (holds.format_version, holds.terraform_version, holds.resource_changes, ← text_in (codes "format_version") d, ← text_or_in (codes "0.0.0") (codes "terraform_version") d)
    (ap (from_members (text_of (codes "format_version") d) (text_or (codes "0.0.0") (member_of (codes "terraform_version") d))) (ap items_or_empty (member_in (codes "resource_changes") d) ∙ elements_are located)
    ∙ top_is (text_of (codes "format_version") d) (text_or (codes "0.0.0") (member_of (codes "terraform_version") d)) (may_list (kind_of located)) (items_at located))

abbrev from_top : Option Header → Result SavedPlan PlanError
from_top h = results.◌>>=◌ (or_refuse NotAPlan h) λ h. cond (ltb max_changes (items_len h.elements)) (Err TooMany) (results.◌>>=◌ (changes_of (list_of h.elements)) λ changes. Ok (record { version = h.version; changes = changes }))

-- the plan of this version, or the fault of its changes
abbrev pub plan_with : List ℕ → Result (List ResourceChange) PlanError → Result SavedPlan PlanError
plan_with version changes = results.◌>>=◌ changes λ changes. Ok (record { version = version; changes = changes })

through_limit : (b : Bool) (version : List ℕ) (changes : Result (List ResourceChange) PlanError) → cond b (Err TooMany) (plan_with version changes) ≡ plan_with version (cond b (Err TooMany) changes)
through_limit true version changes = refl
through_limit false version changes = refl

one_by_one : (elements : Items) → cond (ltb max_changes (items_len elements)) (Err TooMany) (changes_of (list_of elements)) ≡ changes_within (list_of elements)
one_by_one elements = rw (items_len-list_of elements, items_of-list_of elements, changes_one_by_one elements) refl

module _ (slots : PlanSlots) (d : Data) (holds : HoldsPlan slots (members_in d)) where
  plan_is : (version : Option (List ℕ)) → version ≡ version_read slots → plan_of_tree d ≡ from_top (with_elements (items_at (get_member (codes "resource_changes") (members_in d))) version)
  unfolding plan_of_tree
  plan_is version is = ap from_top (header_is slots d holds ∙ ap (with_elements (items_at (get_member (codes "resource_changes") (members_in d)))) (sym is))

  pub no_plan : None ≡ version_read slots → plan_of_tree d ≡ Err NotAPlan
  no_plan is = plan_is None is

  pub plan_from : (version : List ℕ) → Some version ≡ version_read slots → plan_of_tree d ≡ plan_with version (changes_within (list_of (items_at (get_member (codes "resource_changes") (members_in d)))))
  plan_from version is =
      let elements = items_at (get_member (codes "resource_changes") (members_in d)) in
      plan_is (Some version) is ∙ through_limit (ltb max_changes (items_len elements)) version (changes_of (list_of elements)) ∙ ap (plan_with version) (one_by_one elements)
