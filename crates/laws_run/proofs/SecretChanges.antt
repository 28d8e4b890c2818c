-- Changes of resources that differ only in what no stream depends on are read alike.
use Rattle.std.proofs.Common.{◌≡◌, ℕ, suc, List, [], ◌∷◌, ◌++◌, codes, Bool, true, false, cond, ltb, map, nat_eq, Option, Some, None, Ok, Err, Result, inl, inr, option_map, refl, sym, ap, ap₂, ◌∙◌, subst}
use Rattle.std.specs.Prelude.{◌||◌}
use Rattle.std.specs.List.{starts_with}
use Rattle.std.specs.Option.{option_map_or}
use Rattle.std.proofs.lemmas.Option.{same_Some}
use Rattle.json.specs.Json as json
use Rattle.serde_json.specs.Data.{Data, null, boolean, number, string, array, object, Items, no_items, item, no_members}
use Rattle.serde_json.specs.Events.{items_len}
use Rattle.serde_json.specs.Find.{as_array, as_str, get}
use Rattle.serde_json.specs.Read.{number_of}
use Rattle.apply_json.specs.Verbatim.{mixed_tree, mixed_items, mixed_member, mixed_members, none_verbatim}
use Rattle.apply_json.specs.Tree.{◌>>=◌, items_or_empty, list_of, member_of, non_empty_text_of, text_of, text_or, unless_empty, unless_null}
use Rattle.apply_model.specs.Plan.ResourceChange.{ResourceChange}
use Rattle.apply_model.specs.Plan.SavedPlan.{SavedPlan, max_changes}
use Rattle.apply_model.specs.declared.details.change_details.ChangeDetails.{ChangeDetails}
use Rattle.apply_model.specs.declared.details.importing.Importing.{Importing}
use Rattle.apply_model.specs.declared.details.previous_resource.PreviousResource.{PreviousResource}
use Rattle.apply_model.specs.declared.details.reason.Reason.{Reason}
use Rattle.apply_plan.specs.declared.plan.plan_error.PlanError.{PlanError}
use Rattle.apply_plan.specs.declared.plan.plan_error.PlanError.TheVariants.{NotAPlan, TooMany}
use Rattle.apply_plan.specs.ListReading.{made_after}
use Rattle.apply_plan.specs.Plan.Element.{element_of, hides_id, is_true, planned_change_of, prior_id_of}
use Rattle.apply_plan.specs.Plan.Header.{Header, header_of}
use Rattle.apply_plan.specs.Plan.NextChange.{change_after}
use Rattle.apply_plan.specs.Plan.SavedPlan as plan
use Rattle.apply_plan.specs.Plan.SavedPlan.{plan_of_tree, planned_at}
use Rattle.apply_plan.specs.Results as results
use Rattle.apply_plan.specs.Results.{or_refuse}
use Rattle.apply_plan.proofs.Plans.WholeList.{changes_one_by_one}
use Rattle.apply_plan.proofs.Results.{bind_same}
use Rattle.apply_plan_terraform.specs.Changes.{changes_of}
use Rattle.apply_plan_terraform.specs.Details.{config_in, element_details, forgets_in, imported_in, importing_of, is_forgetting, planned_id_in, previous_at, previous_of, reason_named, reason_of, unless_other}
use Rattle.laws_run.specs.LastMembers as last
use Rattle.laws_run.specs.LastMembers.{HaveAlike, HaveSame, last_of}
use Rattle.laws_run.specs.Plans.{AreAlike}
use Rattle.laws_run.specs.SensitiveChanges as secret
use Rattle.laws_run.specs.SensitiveChanges.{EachElementAgrees, ChangesAgree, ElementAgrees, ElementsAgree, IdsAgree}
use Rattle.laws_run.proofs.LastMembers.{IsMade, found_in, member_made, map_some, then_some}

-- the tree of the value
abbrev IsTree : json.Json → Data → Type 0
IsTree j d = mixed_tree none_verbatim j ≡ Some d

-- ---- members of both trees

-- values that are alike in one way have trees that are alike in another
zip_results : (P : json.Json → json.Json → Type 0) (Q : Option Data → Option Data → Type 0) → Q None None
    → ((a b : json.Json) (d e : Data) → IsTree a d → IsTree b e → P a b → Q (Some d) (Some e))
    → (name : List ℕ) (x y : Option json.Json) (o p : Option Data) → AreAlike P x y → IsMade none_verbatim name x o → IsMade none_verbatim name y p → Q o p
zip_results P Q none both name None None None None alike is also = none
zip_results P Q none both name None None None (Some e) alike is also = absurd also
zip_results P Q none both name None None (Some d) p alike is also = absurd is
zip_results P Q none both name None (Some b) o p alike is also = absurd alike
zip_results P Q none both name (Some a) None o p alike is also = absurd alike
zip_results P Q none both name (Some a) (Some b) None p alike is also = absurd is
zip_results P Q none both name (Some a) (Some b) (Some d) None alike is also = absurd also
zip_results P Q none both name (Some a) (Some b) (Some d) (Some e) alike is also = both a b d e is also alike

module _ (a b : json.Json) (d e : Data) (one : IsTree a d) (other : IsTree b e) where
  pub member_same : (name : List ℕ) → last_of name a ≡ last_of name b → member_of name d ≡ member_of name e
  member_same name same =
      ap (λ (o : Option Data). o >>= unless_null)
      (found_in none_verbatim name a d one ∙ ap (λ (o : Option json.Json). o >>= mixed_member none_verbatim name) same ∙ sym (found_in none_verbatim name b e other))

  members_alike : (P : json.Json → json.Json → Type 0) (Q : Option Data → Option Data → Type 0) → Q None None
      → ((a b : json.Json) (d e : Data) → IsTree a d → IsTree b e → P a b → Q (Some d) (Some e))
      → (name : List ℕ) → HaveAlike name P a b → Q (get name d) (get name e)
  members_alike P Q none both name alike =
      zip_results P Q none both name (last_of name a) (last_of name b) (get name d) (get name e) alike (member_made none_verbatim name a d one) (member_made none_verbatim name b e other)

-- a member that is null counts as a member that is missing
unless : {B : Type 0} (f : Option Data → B) → f (Some null) ≡ f None → (o : Option Data) → f (o >>= unless_null) ≡ f o
unless f same None = refl
unless f same (Some null) = sym same
unless f same (Some (boolean b)) = refl
unless f same (Some (number n)) = refl
unless f same (Some (string s)) = refl
unless f same (Some (array ds)) = refl
unless f same (Some (object ms)) = refl

-- ---- an id, unless it is hidden

-- what is made of something that is no flag
no_flag : {A : Type 0} (f : A → Data) → ((a : A) → is_true (Some (f a)) ≡ false) → (o : Option A) (d : Data) → option_map f o ≡ Some d → is_true (Some d) ≡ false
no_flag f never None d e = absurd cc
no_flag f never (Some a) d e = ap (λ (x : Data). is_true (Some x)) (sym (same_Some (f a) d e)) ∙ never a

flag_of_tree : (j : json.Json) (d : Data) → IsTree j d → is_true (Some d) ≡ last.is_true (Some j)
flag_of_tree json.null d e = ap (λ (x : Data). is_true (Some x)) (sym (same_Some null d e))
flag_of_tree (json.boolean b) d e = ap (λ (x : Data). is_true (Some x)) (sym (same_Some (boolean b) d e))
flag_of_tree (json.number s) d e = no_flag number (λ a. refl) (number_of s) d e
flag_of_tree (json.string s) d e = ap (λ (x : Data). is_true (Some x)) (sym (same_Some (string s) d e))
flag_of_tree (json.array js) d e = no_flag array (λ a. refl) (mixed_items none_verbatim js) d e
flag_of_tree (json.object ms) d e = no_flag object (λ a. refl) (mixed_members none_verbatim ms no_members) d e

flag_of_member : (name : List ℕ) (x : Option json.Json) (o : Option Data) → IsMade none_verbatim name x o → is_true o ≡ last.is_true x
flag_of_member name None None is = refl
flag_of_member name None (Some d) is = absurd is
flag_of_member name (Some j) None is = absurd is
flag_of_member name (Some j) (Some d) is = flag_of_tree j d is

hidden_of_tree : (name : List ℕ) (x : Option json.Json) (o : Option Data) → IsMade none_verbatim name x o → hides_id o ≡ secret.hides_id x
hidden_of_tree name None None is = refl
hidden_of_tree name None (Some d) is = absurd is
hidden_of_tree name (Some j) None is = absurd is
hidden_of_tree name (Some j) (Some d) is =
    ap₂ (λ (t u : Bool). t || u) (flag_of_tree j d is)
    (unless is_true refl (get (codes "id") d) ∙ flag_of_member (codes "id") (last_of (codes "id") j) (get (codes "id") d) (member_made none_verbatim (codes "id") j d is))

id_in : Option Data → Option (List ℕ)
id_in o = o >>= λ d. non_empty_text_of (codes "id") d

id_same : (a b : json.Json) (d e : Data) → IsTree a d → IsTree b e → HaveSame (codes "id" ∷ []) a b → id_in (Some d) ≡ id_in (Some e)
unfolding id_in
id_same a b d e one other same = ap (λ (o : Option Data). (o >>= as_str) >>= unless_empty) (member_same a b d e one other (codes "id") same.0)

module _ (a b : json.Json) (d e : Data) (one : IsTree a d) (other : IsTree b e) (values sensitive : List ℕ) (same : IdsAgree values sensitive a b) where
  pub told_id_same : cond (hides_id (member_of sensitive d)) None (member_of values d >>= λ v. non_empty_text_of (codes "id") v)
      ≡ cond (hides_id (member_of sensitive e)) None (member_of values e >>= λ v. non_empty_text_of (codes "id") v)
  unfolding id_in
  told_id_same =
      of_test (hides_id (member_of sensitive d)) refl
    where
      hidden : hides_id (member_of sensitive d) ≡ secret.hides_id (last_of sensitive a)
      hidden = unless hides_id refl (get sensitive d) ∙ hidden_of_tree sensitive (last_of sensitive a) (get sensitive d) (member_made none_verbatim sensitive a d one)

      both : hides_id (member_of sensitive d) ≡ hides_id (member_of sensitive e)
      both = ap hides_id (member_same a b d e one other sensitive same.0.0)

      shown : (h : Bool) → Data → Option (List ℕ)
      shown h x = cond h None (member_of values x >>= λ v. non_empty_text_of (codes "id") v)

      of_test : (h : Bool) → hides_id (member_of sensitive d) ≡ h
          → cond (hides_id (member_of sensitive d)) None (member_of values d >>= λ v. non_empty_text_of (codes "id") v)
          ≡ cond (hides_id (member_of sensitive e)) None (member_of values e >>= λ v. non_empty_text_of (codes "id") v)
      of_test true is =
          ap (λ (h : Bool). cond h None (member_of values d >>= λ v. non_empty_text_of (codes "id") v)) is
          ∙ ap (λ (h : Bool). cond h None (member_of values e >>= λ v. non_empty_text_of (codes "id") v)) (sym is ∙ both)
      of_test false is =
          ap₂ (λ (h : Bool) (id : Option (List ℕ)). cond h None id) both
          (unless id_in refl (get values d)
          ∙ members_alike a b d e one other (HaveSame (codes "id" ∷ [])) (λ x y. id_in x ≡ id_in y) refl id_same values (same.1 (sym hidden ∙ is))
          ∙ sym (unless id_in refl (get values e)))

-- ---- the member `change`

module _ (a b : json.Json) (d e : Data) (one : IsTree a d) (other : IsTree b e) (same : ChangesAgree a b) where
  actions_same : member_of (codes "actions") d ≡ member_of (codes "actions") e
  actions_same = member_same a b d e one other (codes "actions") same.0.0

  pub prior_id_same : prior_id_of d ≡ prior_id_of e
  prior_id_same = told_id_same a b d e one other (codes "before") (codes "before_sensitive") same.1

  pub stated_same : (member_of (codes "actions") d >>= as_array) ≡ (member_of (codes "actions") e >>= as_array)
  stated_same = ap (λ (o : Option Data). o >>= as_array) actions_same

  pub importing_same : imported_in (Some d) ≡ imported_in (Some e)
  importing_same = ap (λ (o : Option Data). o >>= unless_other) (member_same a b d e one other (codes "importing") same.0.1.0)

  pub config_same : config_in (Some d) ≡ config_in (Some e)
  config_same = ap (λ (o : Option Data). (o >>= as_str) >>= unless_empty) (member_same a b d e one other (codes "generated_config") same.0.1.1.0)

  pub planned_id_same : planned_id_in (Some d) ≡ planned_id_in (Some e)
  planned_id_same = told_id_same a b d e one other (codes "after") (codes "after_sensitive") same.2

-- ---- elements

abbrev details_from : Bool → Option Reason → Option Importing → (config planned_id : Option (List ℕ)) → Option PreviousResource → ChangeDetails
details_from forgets reason importing config planned_id previous =
    record { forgets = forgets; reason = reason; importing = importing; generated_config = config; planned_id = planned_id; previous = previous }

pub record IsElementSame (d e : Data) : Type 0 where
  pub element : element_of d ≡ element_of e
  pub details : element_details d ≡ element_details e

module _ (a b : json.Json) (d e : Data) (one : IsTree a d) (other : IsTree b e) (same : ElementAgrees a b) where
  member_is : (name : List ℕ) → last_of name a ≡ last_of name b → member_of name d ≡ member_of name e
  member_is name at = member_same a b d e one other name at

  -- of what is asked of the change
  by_change : {B : Type 0} (f : Option Data → B) → f (Some null) ≡ f None
      → ((a b : json.Json) (d e : Data) → IsTree a d → IsTree b e → ChangesAgree a b → f (Some d) ≡ f (Some e))
      → f (member_of (codes "change") d) ≡ f (member_of (codes "change") e)
  by_change f null_too alike =
      unless f null_too (get (codes "change") d)
      ∙ members_alike a b d e one other ChangesAgree (λ x y. f x ≡ f y) refl alike (codes "change") same.1
      ∙ sym (unless f null_too (get (codes "change") e))

  planned_same : planned_change_of d ≡ planned_change_of e
  planned_same = by_change planned_in refl in_change
    where
      planned_in : Option Data → Option (Items × Option (List ℕ))
      planned_in o = o >>= λ (change : Data). (member_of (codes "actions") change >>= λ (list : Data). (as_array list >>= λ (actions : Items). Some (actions, prior_id_of change)))

      with_id : Option Data → Option (List ℕ) → Option (Items × Option (List ℕ))
      with_id o id = o >>= λ (list : Data). (as_array list >>= λ (actions : Items). Some (actions, id))

      in_change : (a b : json.Json) (d e : Data) → IsTree a d → IsTree b e → ChangesAgree a b → planned_in (Some d) ≡ planned_in (Some e)
      in_change a b d e one other same = ap₂ with_id (actions_same a b d e one other same) (prior_id_same a b d e one other same)

  element_same : element_of d ≡ element_of e
  unfolding element_of
  element_same =
      let m = same.0 in
      rw (
        member_is (codes "address") m.0,
        member_is (codes "mode") m.1.0,
        member_is (codes "type") m.1.1.0,
        member_is (codes "name") m.1.1.1.0,
        member_is (codes "module_address") m.1.1.1.1.0,
        member_is (codes "index") m.1.1.1.1.1.0,
        member_is (codes "deposed") m.1.1.1.1.1.1.0,
        planned_same,
      ) refl

  details_same : element_details d ≡ element_details e
  details_same =
      let text = λ (name : List ℕ) (at : last_of name a ≡ last_of name b). ap (λ (o : Option Data). (o >>= as_str) >>= unless_empty) (member_is name at) in
      let forgets = by_change forgets_in refl (λ a b d e one other same. ap (λ (o : Option Items). option_map_or is_forgetting o false) (stated_same a b d e one other same)) in
      let importing = by_change (λ o. importing_of (imported_in o)) refl (λ a b d e one other same. ap importing_of (importing_same a b d e one other same)) in
      let config = by_change config_in refl config_same in
      let planned_id = by_change planned_id_in refl planned_id_same in
      let reason = ap (option_map reason_named) (text (codes "action_reason") same.0.1.1.1.1.1.1.1.0) in
      let previous = ap (λ (o : Option (List ℕ)). o >>= previous_at) (text (codes "previous_address") same.0.1.1.1.1.1.1.1.1.0) in
      ap₂ (λ f r. details_from f r (importing_of (imported_in (member_of (codes "change") d))) (config_in (member_of (codes "change") d)) (planned_id_in (member_of (codes "change") d)) (previous_of d)) forgets reason
      ∙ ap₂ (λ i c. details_from (forgets_in (member_of (codes "change") e)) (reason_of e) i c (planned_id_in (member_of (codes "change") d)) (previous_of d)) importing config
      ∙ ap₂ (λ p v. details_from (forgets_in (member_of (codes "change") e)) (reason_of e) (importing_of (imported_in (member_of (codes "change") e))) (config_in (member_of (codes "change") e)) p v) planned_id previous

  pub elements_same : IsElementSame d e
  elements_same = record { element = element_same; details = details_same }

-- ---- all elements

abbrev EachSame : Items → Items → Type 0
EachSame no_items no_items = Unit {0}
EachSame no_items (item e es) = ⊥
EachSame (item d ds) no_items = ⊥
EachSame (item d ds) (item e es) = IsElementSame d e × EachSame ds es

each_itself : (ds : Items) → EachSame ds ds
each_itself no_items = tt
each_itself (item d ds) = (record { element = refl; details = refl }, each_itself ds)

each_made : (ones others : json.Items) (ds es : Items) → mixed_items none_verbatim ones ≡ Some ds → mixed_items none_verbatim others ≡ Some es → EachElementAgrees ones others → EachSame ds es
each_made json.no_items json.no_items ds es one other alike = subst (λ (x : Items). EachSame x es) (same_Some no_items ds one) (subst (EachSame no_items) (same_Some no_items es other) tt)
each_made json.no_items (json.item b others) ds es one other alike = absurd alike
each_made (json.item a ones) json.no_items ds es one other alike = absurd alike
each_made (json.item a ones) (json.item b others) ds es one other alike =
    let first = then_some (λ d. option_map (item d) (mixed_items none_verbatim ones)) (mixed_tree none_verbatim a) ds one in
    let second = then_some (λ e. option_map (item e) (mixed_items none_verbatim others)) (mixed_tree none_verbatim b) es other in
    let more = map_some (item first.0) (mixed_items none_verbatim ones) ds first.2 in
    let rest = map_some (item second.0) (mixed_items none_verbatim others) es second.2 in
    let all : EachSame (item first.0 more.0) (item second.0 rest.0) =
    (elements_same a b first.0 second.0 first.1 second.1 alike.0, each_made ones others more.0 rest.0 more.1 rest.1 alike.1) in
    subst (λ (x : Items). EachSame x es) more.2 (subst (EachSame (item first.0 more.0)) rest.2 all)

-- ---- what follows of elements that are read alike

same_answer : (earlier : List ResourceChange) (d e : Data) → element_of d ≡ element_of e → change_after earlier d ≡ change_after earlier e
unfolding change_after planned_at
same_answer earlier d e same = rw same refl

same_answers : (earlier : List ResourceChange) (ds es : Items) → EachSame ds es → made_after change_after earlier ds ≡ made_after change_after earlier es
unfolding made_after
same_answers earlier no_items no_items alike = refl
same_answers earlier no_items (item e es) alike = absurd alike
same_answers earlier (item d ds) no_items alike = absurd alike
same_answers earlier (item d ds) (item e es) alike =
    rw (same_answer earlier d e alike.0.element) (bind_same (change_after earlier e) _ _ (λ made. same_answers (earlier ++ made ∷ []) ds es alike.1))

same_count : (ds es : Items) → EachSame ds es → items_len ds ≡ items_len es
same_count no_items no_items alike = refl
same_count no_items (item e es) alike = absurd alike
same_count (item d ds) no_items alike = absurd alike
same_count (item d ds) (item e es) alike = ap suc (same_count ds es alike.1)

same_details : (ds es : Items) → EachSame ds es → map element_details (list_of ds) ≡ map element_details (list_of es)
same_details no_items no_items alike = refl
same_details no_items (item e es) alike = absurd alike
same_details (item d ds) no_items alike = absurd alike
same_details (item d ds) (item e es) alike = ap₂ (λ (x : ChangeDetails) (xs : List ChangeDetails). x ∷ xs) alike.0.details (same_details ds es alike.1)

same_changes : (ds es : Items) → EachSame ds es → plan.changes_of (list_of ds) ≡ plan.changes_of (list_of es)
same_changes ds es alike = sym (changes_one_by_one ds) ∙ same_answers [] ds es alike ∙ changes_one_by_one es

-- ---- the member `resource_changes`

-- the elements, for a plan and for the details of Terraform's form
abbrev AreSame : Option Data → Option Data → Type 0
AreSame x y =
    AreAlike EachSame (items_or_empty (x >>= unless_null)) (items_or_empty (y >>= unless_null))
    × (map element_details (option_map_or list_of ((x >>= unless_null) >>= as_array) []) ≡ map element_details (option_map_or list_of ((y >>= unless_null) >>= as_array) []))

items_themselves : (o : Option Items) → AreAlike EachSame o o
items_themselves None = tt
items_themselves (Some ds) = each_itself ds

array_made : (ones : json.Items) (d : Data) → IsTree (json.array ones) d → (ds : Items) × (mixed_items none_verbatim ones ≡ Some ds) × (array ds ≡ d)
array_made ones d is = map_some array (mixed_items none_verbatim ones) d is

elements_alike : (a b : json.Json) (d e : Data) → IsTree a d → IsTree b e → ElementsAgree a b → AreSame (Some d) (Some e)
elements_alike a b d e one other (inl same) =
    let trees : d ≡ e = same_Some d e (sym one ∙ ap (mixed_tree none_verbatim) same ∙ other) in
    subst (λ (x : Data). AreSame (Some d) (Some x)) trees (items_themselves (items_or_empty (unless_null d)), refl)
elements_alike a b d e one other (inr both) =
    let first = array_made both.0 d (ap (mixed_tree none_verbatim) (sym both.2) ∙ one) in
    let second = array_made both.1 e (ap (mixed_tree none_verbatim) (sym both.3) ∙ other) in
    let each = each_made both.0 both.1 first.0 second.0 first.1 second.1 both.4 in
    subst (λ (x : Data). AreSame (Some x) (Some e)) first.2 (subst (λ (y : Data). AreSame (Some (array first.0)) (Some y)) second.2 (each, same_details first.0 second.0 each))

abbrev plan_of_header : Header → Result SavedPlan PlanError
plan_of_header header =
    cond (ltb max_changes (items_len header.elements)) (Err TooMany) (results.◌>>=◌ (plan.changes_of (list_of header.elements)) λ changes. Ok (record { version = header.version; changes = changes }))

abbrev top : (version : List ℕ) → Items → Header
top version elements = record { version = version; elements = elements }

-- a plan, from its top level
abbrev plan_from : (format version : Option (List ℕ)) → Option Items → Result SavedPlan PlanError
plan_from format version elements =
    results.◌>>=◌
    (or_refuse NotAPlan
    (format >>= λ format. (version >>= λ version. (elements >>= λ elements. cond (starts_with nat_eq format (codes "1.")) (Some (top version elements)) None))))
    plan_of_header

from_elements : (format version : Option (List ℕ)) (ds es : Option Items) → AreAlike EachSame ds es → plan_from format version ds ≡ plan_from format version es
from_elements None version ds es alike = refl
from_elements (Some format) None ds es alike = refl
from_elements (Some format) (Some version) None None alike = refl
from_elements (Some format) (Some version) None (Some es) alike = absurd alike
from_elements (Some format) (Some version) (Some ds) None alike = absurd alike
from_elements (Some format) (Some version) (Some ds) (Some es) alike =
    of_test (starts_with nat_eq format (codes "1."))
  where
    of_test : (b : Bool) → results.◌>>=◌ (or_refuse NotAPlan (cond b (Some (top version ds)) None)) (plan_of_header) ≡ results.◌>>=◌ (or_refuse NotAPlan (cond b (Some (top version es)) None)) (plan_of_header)
    of_test true = rw (same_count ds es alike, same_changes ds es alike) refl
    of_test false = refl

module _ (a b : json.Json) (d e : Data) (one : IsTree a d) (other : IsTree b e) (same : HaveAlike (codes "resource_changes") ElementsAgree a b) where
  alike : AreSame (get (codes "resource_changes") d) (get (codes "resource_changes") e)
  alike = members_alike a b d e one other ElementsAgree AreSame (tt, refl) elements_alike (codes "resource_changes") same

  pub same_plan : HaveSame (codes "format_version" ∷ codes "terraform_version" ∷ []) a b → plan_of_tree d ≡ plan_of_tree e
  unfolding plan_of_tree header_of
  same_plan stated =
      let format : text_of (codes "format_version") d ≡ text_of (codes "format_version") e = ap (λ (o : Option Data). o >>= as_str) (member_same a b d e one other (codes "format_version") stated.0) in
      let version = ap (text_or (codes "0.0.0")) (member_same a b d e one other (codes "terraform_version") stated.1.0) in
      from_elements (text_of (codes "format_version") d) (text_or (codes "0.0.0") (member_of (codes "terraform_version") d)) (items_or_empty (member_of (codes "resource_changes") d)) (items_or_empty (member_of (codes "resource_changes") e)) alike.0
      ∙ ap₂ (λ (f v : Option (List ℕ)). plan_from f v (items_or_empty (member_of (codes "resource_changes") e))) format version

  pub same_stated : changes_of d ≡ changes_of e
  same_stated = alike.1
