-- Trees that are alike in all that is read of them are one plan.
use Rattle.std.proofs.Common.{◌≡◌, ℕ, true, false, cond, List, [], ◌∷◌, ◌++◌, codes, nat_eq, Option, Some, None, Result, Ok, Err, refl, sym, ap, suc, ltb, ◌∙◌}
use Rattle.std.specs.List.{starts_with}
use Rattle.serde_json.specs.Data.{Data, Items, no_items, item}
use Rattle.serde_json.specs.Events.{items_len}
use Rattle.apply_plan.specs.declared.plan.plan_error.PlanError.{PlanError}
use Rattle.apply_plan.specs.declared.plan.plan_error.PlanError.TheVariants.{NotAPlan, TooMany}
use Rattle.apply_json.specs.Tree.{◌>>=◌, items_or_empty, list_of, member_of, non_empty_text_of, text_of, text_or}
use Rattle.apply_plan.specs.ListReading.{made_after}
use Rattle.apply_plan.specs.Plan.Element.{element_of, planned_change_of, prior_id_of}
use Rattle.apply_plan.specs.Plan.Header.{Header, header_of}
use Rattle.laws_run.specs.Plans.{AreAlike, ArraysAgree, ChangesAgree, ElementAgrees, ElementsAgree, PlansAgree}
use Rattle.apply_plan.specs.Plan.NextChange.{change_after}
use Rattle.apply_model.specs.Plan.ResourceChange.{ResourceChange}
use Rattle.apply_model.specs.Plan.SavedPlan.{SavedPlan, max_changes}
use Rattle.apply_plan.specs.Plan.SavedPlan.{changes_of, plan_of_tree, planned_at}
use Rattle.apply_plan.specs.Results as results
use Rattle.apply_plan.specs.Results.{or_refuse}
use Rattle.apply_plan.proofs.Results.{bind_same}
use Rattle.apply_plan.proofs.Plans.WholeList.{changes_one_by_one}

-- what follows from a value follows from an alike value
follows : {X B : Type 0} (Alike : X → X → Type 0) (f : X → Option B) → ((one other : X) → Alike one other → f one ≡ f other)
    → (one other : Option X) → AreAlike Alike one other → (one >>= f) ≡ (other >>= f)
follows Alike f same None None alike = refl
follows Alike f same None (Some other) alike = absurd alike
follows Alike f same (Some one) None alike = absurd alike
follows Alike f same (Some one) (Some other) alike = same one other alike

same_prior_id : (one other : Data) → ChangesAgree one other → prior_id_of one ≡ prior_id_of other
same_prior_id one other alike =
    rw (alike.0.1.0, follows _ (λ before. non_empty_text_of (codes "id") before) (λ a b same. rw (same.0) refl) (member_of (codes "before") one) (member_of (codes "before") other) alike.1) refl

same_change : (one other : Data) → ElementAgrees one other → planned_change_of one ≡ planned_change_of other
same_change one other alike =
    follows ChangesAgree _ (λ a b same. rw (same.0.0, same_prior_id a b same) refl) (member_of (codes "change") one) (member_of (codes "change") other) alike.1

same_element : (one other : Data) → ElementAgrees one other → element_of one ≡ element_of other
unfolding element_of
same_element one other alike =
    let members = alike.0 in
    rw (members.0, members.1.0, members.1.1.0, members.1.1.1.0, members.1.1.1.1.0, members.1.1.1.1.1.0, members.1.1.1.1.1.1.0, same_change one other alike) refl

same_answer : (earlier : List ResourceChange) (one other : Data) → ElementAgrees one other → change_after earlier one ≡ change_after earlier other
unfolding change_after planned_at
same_answer earlier one other alike = rw (same_element one other alike) refl

same_answers : (earlier : List ResourceChange) (ones others : Items) → ElementsAgree ones others → made_after change_after earlier ones ≡ made_after change_after earlier others
unfolding made_after
same_answers earlier no_items no_items alike = refl
same_answers earlier no_items (item other others) alike = absurd alike
same_answers earlier (item one ones) no_items alike = absurd alike
same_answers earlier (item one ones) (item other others) alike =
    rw (same_answer earlier one other alike.0) (bind_same (change_after earlier other) _ _ (λ made. same_answers (earlier ++ made ∷ []) ones others alike.1))

same_count : (ones others : Items) → ElementsAgree ones others → items_len ones ≡ items_len others
same_count no_items no_items alike = refl
same_count no_items (item other others) alike = absurd alike
same_count (item one ones) no_items alike = absurd alike
same_count (item one ones) (item other others) alike = ap suc (same_count ones others alike.1)

-- the version is the same, and the elements are alike
abbrev TopLevelsAgree : Header → Header → Type 0
TopLevelsAgree one other = (one.version ≡ other.version) × ElementsAgree one.elements other.elements

elements_alike : (one other : Option Data) → AreAlike ArraysAgree one other → AreAlike ElementsAgree (items_or_empty one) (items_or_empty other)
elements_alike None None alike = tt
elements_alike None (Some other) alike = absurd alike
elements_alike (Some one) None alike = absurd alike
elements_alike (Some one) (Some other) alike = alike

-- the top level, from its members
abbrev top_of : Option (List ℕ) → Option (List ℕ) → Option Items → Option Header
top_of format version elements =
    format >>= λ format. (version >>= λ version. (elements >>= λ elements. cond (starts_with nat_eq format (codes "1.")) (Some (record { version = version; elements = elements })) None))

same_top : (format version : Option (List ℕ)) (ones others : Option Items) → AreAlike ElementsAgree ones others → AreAlike TopLevelsAgree (top_of format version ones) (top_of format version others)
same_top None version ones others alike = tt
same_top (Some format) None ones others alike = tt
same_top (Some format) (Some version) None None alike = tt
same_top (Some format) (Some version) None (Some others) alike = absurd alike
same_top (Some format) (Some version) (Some ones) None alike = absurd alike
same_top (Some format) (Some version) (Some ones) (Some others) alike =
    elim (starts_with nat_eq format (codes "1.")) as (λ b. AreAlike TopLevelsAgree (cond b (Some (record { version = version; elements = ones })) None) (cond b (Some (record { version = version; elements = others })) None)) [ true ↦ (refl, alike) | false ↦ tt ]

tops_alike : (one other : Data) → PlansAgree one other → AreAlike TopLevelsAgree (header_of one) (header_of other)
unfolding header_of
tops_alike one other alike =
    rw (alike.0.0, alike.0.1.0)
    (same_top (text_of (codes "format_version") other) (text_or (codes "0.0.0") (member_of (codes "terraform_version") other)) (items_or_empty (member_of (codes "resource_changes") one)) (items_or_empty (member_of (codes "resource_changes") other))
    (elements_alike (member_of (codes "resource_changes") one) (member_of (codes "resource_changes") other) alike.1))

same_changes : (ones others : Items) → ElementsAgree ones others → changes_of (list_of ones) ≡ changes_of (list_of others)
same_changes ones others alike = sym (changes_one_by_one ones) ∙ same_answers [] ones others alike ∙ changes_one_by_one others

-- the plan, from the top level
abbrev plan_from : Option Header → Result SavedPlan PlanError
plan_from top =
    results.◌>>=◌ (or_refuse NotAPlan top) λ header. cond (ltb max_changes (items_len header.elements)) (Err TooMany) (results.◌>>=◌ (changes_of (list_of header.elements)) λ changes. Ok (record { version = header.version; changes = changes }))

from_tops : (one other : Option Header) → AreAlike TopLevelsAgree one other → plan_from one ≡ plan_from other
from_tops None None alike = refl
from_tops None (Some other) alike = absurd alike
from_tops (Some one) None alike = absurd alike
from_tops (Some one) (Some other) alike = rw (alike.0, same_count one.elements other.elements alike.1, same_changes one.elements other.elements alike.1) refl

pub same_plan : (one other : Data) → PlansAgree one other → plan_of_tree one ≡ plan_of_tree other
unfolding plan_of_tree
same_plan one other alike = from_tops (header_of one) (header_of other) (tops_alike one other alike)
