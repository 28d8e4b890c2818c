-- The planned changes have as many creates, updates and deletes as the plan, and no more reads than
-- may overlap.
use Rattle.std.proofs.Common.{◌≡◌, ℕ, ◌+◌, ◌<◌, ◌≤◌, List, [], ◌∷◌, cond, count_by, flat_map, length, Bool, true, false, Option, Some, None, refl, sym, ap, subst, slice_get, arith}
use Rattle.std.specs.List.{enumerate_from}
use Rattle.std.specs.Option.{option_map_or}
use Rattle.std.proofs.lemmas.List.Sums.{sum_by-cons}
use Rattle.std.proofs.lemmas.Option.{slice_get-get_or, slice_get_within}
use Rattle.apply_model.specs.declared.details.change_details.ChangeDetails.{ChangeDetails}
use Rattle.apply_model.specs.declared.plan.step_kind.StepKind.{StepKind}
use Rattle.apply_model.specs.declared.plan.step_kind.StepKind.TheVariants.{Create, Update, Delete, Read}
use Rattle.apply_model.specs.Plan.ResourceChange.{ResourceChange}
use Rattle.apply_model.specs.Plan.SavedPlan.{SavedPlan}
use Rattle.stream_check.specs.declared.messages.action.Action.{Action}
use Rattle.stream_check.specs.declared.messages.action.Action.TheVariants as action
use Rattle.stream_check.specs.Message.{Message, intent_named, planned}
use Rattle.stream_check.specs.Tally.{plans_create, plans_delete, plans_update}
use Rattle.apply_events.specs.Step.{kinds_of}
use Rattle.apply_text_terraform.specs.Details.{planned_word}
use Rattle.laws_check.specs.Plans.{AreStepsOfOne, ChangesAreWhole, IsChange}
use Rattle.laws_check.specs.ReadBackInForm.{planned_read_back, planned_read_back_at}
use Rattle.laws_check.proofs.FormCounts.{does_so}
use Rattle.laws_check.proofs.ChangeSums.{by_elements, ones, total, total_most}

-- how many steps of that action the plan has
abbrev pub cap_of : SavedPlan → Action → ℕ
cap_of plan k = total 0 (length plan.changes) (λ c. count_by (does_so k) (kinds_of plan c))

-- ---- one change

abbrev word_read_back : Option (List ℕ) → List StepKind → Bool → List Message
word_read_back address steps forgets = option_map_or (λ word. planned (intent_named word) address ∷ []) (planned_word steps forgets) []

pub record ArePlanned (steps : List StepKind) (ms : List Message) : Type 0 where
  pub creates : count_by plans_create ms ≡ count_by (does_so action.Create) steps
  pub updates : count_by plans_update ms ≡ count_by (does_so action.Update) steps
  pub deletes : count_by plans_delete ms ≡ count_by (does_so action.Delete) steps

plans_are : (o : Option (List ℕ)) (steps : List StepKind) (forgets : Bool) → AreStepsOfOne steps → ArePlanned steps (word_read_back o steps forgets)
plans_are o [] true h = record { creates = refl; updates = refl; deletes = refl }
plans_are o [] false h = record { creates = refl; updates = refl; deletes = refl }
plans_are o (Create ∷ []) forgets h = record { creates = refl; updates = refl; deletes = refl }
plans_are o (Update ∷ []) forgets h = record { creates = refl; updates = refl; deletes = refl }
plans_are o (Delete ∷ []) forgets h = record { creates = refl; updates = refl; deletes = refl }
plans_are o (Read ∷ []) forgets h = record { creates = refl; updates = refl; deletes = refl }
plans_are o (Create ∷ Create ∷ []) forgets h = absurd h
plans_are o (Create ∷ Create ∷ kind ∷ kinds) forgets h = absurd h
plans_are o (Create ∷ Update ∷ []) forgets h = absurd h
plans_are o (Create ∷ Update ∷ kind ∷ kinds) forgets h = absurd h
plans_are o (Create ∷ Delete ∷ []) forgets h = record { creates = refl; updates = refl; deletes = refl }
plans_are o (Create ∷ Delete ∷ kind ∷ kinds) forgets h = absurd h
plans_are o (Create ∷ Read ∷ []) forgets h = absurd h
plans_are o (Create ∷ Read ∷ kind ∷ kinds) forgets h = absurd h
plans_are o (Update ∷ Create ∷ []) forgets h = absurd h
plans_are o (Update ∷ Create ∷ kind ∷ kinds) forgets h = absurd h
plans_are o (Update ∷ Update ∷ []) forgets h = absurd h
plans_are o (Update ∷ Update ∷ kind ∷ kinds) forgets h = absurd h
plans_are o (Update ∷ Delete ∷ []) forgets h = absurd h
plans_are o (Update ∷ Delete ∷ kind ∷ kinds) forgets h = absurd h
plans_are o (Update ∷ Read ∷ []) forgets h = absurd h
plans_are o (Update ∷ Read ∷ kind ∷ kinds) forgets h = absurd h
plans_are o (Delete ∷ Create ∷ []) forgets h = record { creates = refl; updates = refl; deletes = refl }
plans_are o (Delete ∷ Create ∷ kind ∷ kinds) forgets h = absurd h
plans_are o (Delete ∷ Update ∷ []) forgets h = absurd h
plans_are o (Delete ∷ Update ∷ kind ∷ kinds) forgets h = absurd h
plans_are o (Delete ∷ Delete ∷ []) forgets h = absurd h
plans_are o (Delete ∷ Delete ∷ kind ∷ kinds) forgets h = absurd h
plans_are o (Delete ∷ Read ∷ []) forgets h = absurd h
plans_are o (Delete ∷ Read ∷ kind ∷ kinds) forgets h = absurd h
plans_are o (Read ∷ Create ∷ []) forgets h = absurd h
plans_are o (Read ∷ Create ∷ kind ∷ kinds) forgets h = absurd h
plans_are o (Read ∷ Update ∷ []) forgets h = absurd h
plans_are o (Read ∷ Update ∷ kind ∷ kinds) forgets h = absurd h
plans_are o (Read ∷ Delete ∷ []) forgets h = absurd h
plans_are o (Read ∷ Delete ∷ kind ∷ kinds) forgets h = absurd h
plans_are o (Read ∷ Read ∷ []) forgets h = absurd h
plans_are o (Read ∷ Read ∷ kind ∷ kinds) forgets h = absurd h

one_alone : (k : Action) (x : StepKind) → count_by (does_so k) (x ∷ []) ≤ 1
one_alone k x = let all = sum_by-cons (λ x. cond (does_so k x) 1 0) x [] in let bit = at_most (does_so k x) in omega arith
  where
    at_most : (b : Bool) → cond {A = ℕ} b 1 0 ≤ 1
    at_most true = omega arith
    at_most false = omega arith

one_of_two : (k : Action) → cond {A = ℕ} (does_so k Create) 1 0 + cond (does_so k Delete) 1 0 ≤ 1
one_of_two action.Create = omega arith
one_of_two action.Update = omega arith
one_of_two action.Delete = omega arith
one_of_two action.Read = omega arith
one_of_two action.Refresh = omega arith

pub one_at_most : (k : Action) (steps : List StepKind) → AreStepsOfOne steps → count_by (does_so k) steps ≤ 1
one_at_most k [] h = omega arith
one_at_most k (Create ∷ []) h = one_alone k Create
one_at_most k (Update ∷ []) h = one_alone k Update
one_at_most k (Delete ∷ []) h = one_alone k Delete
one_at_most k (Read ∷ []) h = one_alone k Read
one_at_most k (Create ∷ Create ∷ []) h = absurd h
one_at_most k (Create ∷ Create ∷ kind ∷ kinds) h = absurd h
one_at_most k (Create ∷ Update ∷ []) h = absurd h
one_at_most k (Create ∷ Update ∷ kind ∷ kinds) h = absurd h
one_at_most k (Create ∷ Delete ∷ []) h = let all = sum_by-cons (λ x. cond (does_so k x) 1 0) Create (Delete ∷ []) in let rest = sum_by-cons (λ x. cond (does_so k x) 1 0) Delete [] in let one = one_of_two k in omega arith
one_at_most k (Create ∷ Delete ∷ kind ∷ kinds) h = absurd h
one_at_most k (Create ∷ Read ∷ []) h = absurd h
one_at_most k (Create ∷ Read ∷ kind ∷ kinds) h = absurd h
one_at_most k (Update ∷ Create ∷ []) h = absurd h
one_at_most k (Update ∷ Create ∷ kind ∷ kinds) h = absurd h
one_at_most k (Update ∷ Update ∷ []) h = absurd h
one_at_most k (Update ∷ Update ∷ kind ∷ kinds) h = absurd h
one_at_most k (Update ∷ Delete ∷ []) h = absurd h
one_at_most k (Update ∷ Delete ∷ kind ∷ kinds) h = absurd h
one_at_most k (Update ∷ Read ∷ []) h = absurd h
one_at_most k (Update ∷ Read ∷ kind ∷ kinds) h = absurd h
one_at_most k (Delete ∷ Create ∷ []) h = let all = sum_by-cons (λ x. cond (does_so k x) 1 0) Delete (Create ∷ []) in let rest = sum_by-cons (λ x. cond (does_so k x) 1 0) Create [] in let one = one_of_two k in omega arith
one_at_most k (Delete ∷ Create ∷ kind ∷ kinds) h = absurd h
one_at_most k (Delete ∷ Update ∷ []) h = absurd h
one_at_most k (Delete ∷ Update ∷ kind ∷ kinds) h = absurd h
one_at_most k (Delete ∷ Delete ∷ []) h = absurd h
one_at_most k (Delete ∷ Delete ∷ kind ∷ kinds) h = absurd h
one_at_most k (Delete ∷ Read ∷ []) h = absurd h
one_at_most k (Delete ∷ Read ∷ kind ∷ kinds) h = absurd h
one_at_most k (Read ∷ Create ∷ []) h = absurd h
one_at_most k (Read ∷ Create ∷ kind ∷ kinds) h = absurd h
one_at_most k (Read ∷ Update ∷ []) h = absurd h
one_at_most k (Read ∷ Update ∷ kind ∷ kinds) h = absurd h
one_at_most k (Read ∷ Delete ∷ []) h = absurd h
one_at_most k (Read ∷ Delete ∷ kind ∷ kinds) h = absurd h
one_at_most k (Read ∷ Read ∷ []) h = absurd h
one_at_most k (Read ∷ Read ∷ kind ∷ kinds) h = absurd h

-- ---- all changes

no_details : ChangeDetails
no_details = record { forgets = false; reason = None; importing = None; generated_config = None; planned_id = None; previous = None }

module _ (plan : SavedPlan) (details : List ChangeDetails) (whole : ChangesAreWhole plan) (as_many : length details ≡ length plan.changes) where
  pub kinds_are : (c : ℕ) (change : ResourceChange) → IsChange plan c change → kinds_of plan c ≡ change.steps
  kinds_are c change is = ap (λ (o : Option ResourceChange). option_map_or (λ (change : ResourceChange). change.steps) o []) is

  pub planned_of_change : (c : ℕ) (change : ResourceChange) → IsChange plan c change → ArePlanned (kinds_of plan c) (planned_read_back_at details (c, change))
  planned_of_change c change is =
      let within : c < length plan.changes = slice_get_within plan.changes c change is in
      let located = slice_get-get_or details c no_details (omega (arith, within, as_many)) in
      subst (λ (steps : List StepKind). ArePlanned steps (planned_read_back_at details (c, change))) (sym (kinds_are c change is))
      (subst (λ (o : Option ChangeDetails). ArePlanned change.steps (option_map_or (planned_read_back change) o [])) (sym located) (plans_are (Some change.address) change.steps _ (whole c change is)))

  module _ (p : Message → Bool) (k : Action) (each : (steps : List StepKind) (ms : List Message) → ArePlanned steps ms → count_by p ms ≡ count_by (does_so k) steps) where
    pub planned_share : count_by p (flat_map (planned_read_back_at details) (enumerate_from 0 plan.changes)) ≡ cap_of plan k
    planned_share =
        by_elements p (planned_read_back_at details) (λ c. count_by (does_so k) (kinds_of plan c)) 0 plan.changes
        (λ i change is. let same : i ≡ 0 + i = omega arith in each (kinds_of plan (0 + i)) (planned_read_back_at details (0 + i, change)) (planned_of_change (0 + i) change (subst (λ (c : ℕ). IsChange plan c change) same is)))

  pub creates_planned : count_by plans_create (flat_map (planned_read_back_at details) (enumerate_from 0 plan.changes)) ≡ cap_of plan action.Create
  creates_planned = planned_share plans_create action.Create (λ steps ms are. are.creates)

  pub updates_planned : count_by plans_update (flat_map (planned_read_back_at details) (enumerate_from 0 plan.changes)) ≡ cap_of plan action.Update
  updates_planned = planned_share plans_update action.Update (λ steps ms are. are.updates)

  pub deletes_planned : count_by plans_delete (flat_map (planned_read_back_at details) (enumerate_from 0 plan.changes)) ≡ cap_of plan action.Delete
  deletes_planned = planned_share plans_delete action.Delete (λ steps ms are. are.deletes)

-- each change reads at most once
pub few_reads_of : (plan : SavedPlan) → ChangesAreWhole plan → (c : ℕ) → count_by (does_so action.Read) (kinds_of plan c) ≤ 1
few_reads_of plan whole c = of_change (slice_get plan.changes c) refl
  where
    of_change : (o : Option ResourceChange) → slice_get plan.changes c ≡ o → count_by (does_so action.Read) (option_map_or (λ (change : ResourceChange). change.steps) (slice_get plan.changes c) []) ≤ 1
    of_change None is = let none : count_by (does_so action.Read) (option_map_or (λ (change : ResourceChange). change.steps) (slice_get plan.changes c) []) ≡ 0 = ap (λ (o : Option ResourceChange). count_by (does_so action.Read) (option_map_or (λ (change : ResourceChange). change.steps) o [])) is in omega arith
    of_change (Some change) is =
        let same : count_by (does_so action.Read) (option_map_or (λ (change : ResourceChange). change.steps) (slice_get plan.changes c) []) ≡ count_by (does_so action.Read) change.steps =
        ap (λ (o : Option ResourceChange). count_by (does_so action.Read) (option_map_or (λ (change : ResourceChange). change.steps) o [])) is in
        let one = one_at_most action.Read change.steps (whole c change is) in
        omega arith

pub few_reads : (plan : SavedPlan) → ChangesAreWhole plan → cap_of plan action.Read ≤ length plan.changes
few_reads plan whole =
    let most = total_most 0 (length plan.changes) (λ c. count_by (does_so action.Read) (kinds_of plan c)) (λ c. 1) (λ c above below. few_reads_of plan whole c) in
    let all = ones 0 (length plan.changes) in
    omega arith
