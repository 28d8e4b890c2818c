-- What is read back of events plans nothing, and changes plan at most one message each.
use Rattle.std.proofs.Common.{ℕ, ◌+◌, ◌≤◌, List, [], ◌∷◌, cond, flat_map, length, length-append, Bool, true, false, Option, Some, None, refl, slice_get, arith}
use Rattle.std.specs.List.{enumerate_from}
use Rattle.std.specs.Option.{option_map_or}
use Rattle.apply_model.specs.declared.details.change_details.ChangeDetails.{ChangeDetails}
use Rattle.apply_model.specs.declared.plan.step_kind.StepKind.{StepKind}
use Rattle.apply_model.specs.declared.script.outcome.Outcome.{Outcome}
use Rattle.apply_model.specs.Plan.ResourceChange.{ResourceChange}
use Rattle.apply_model.specs.Plan.SavedPlan.{SavedPlan}
use Rattle.apply_model.specs.Script.OutcomeMap.{OutcomeMap, outcome_of}
use Rattle.apply_events.specs.declared.event.Event.{Event}
use Rattle.apply_events.specs.declared.what.What.{What}
use Rattle.apply_events.specs.declared.what.What.TheVariants.{Start, Progress, Complete, Errored, ErrorNote, WarnNote, Halted, ProvisionStart, ProvisionOutput, ProvisionComplete, ProvisionErrored}
use Rattle.apply_text_terraform.specs.Details.{planned_word}
use Rattle.apply_text_terraform.specs.Message.{is_silent}
use Rattle.stream_check.specs.Message.{intent_named, planned}
use Rattle.laws_check.specs.ReadBackInForm.{event_read_back_in_form, planned_read_back, planned_read_back_at, read_back_in_form}
use Rattle.laws_check.proofs.FormUnbegun.{PlanNothing, nothing_both}

one_nothing : (a : List ℕ) (change : ResourceChange) (does : StepKind) (outcome : Outcome) (what : What) → PlanNothing a (read_back_in_form change does outcome what ∷ [])
one_nothing a change does outcome Start = (λ line begun w. refl, tt)
one_nothing a change does outcome (Progress s) = (λ line begun w. refl, tt)
one_nothing a change does outcome (Complete s) = (λ line begun w. refl, tt)
one_nothing a change does outcome (Errored s) = (λ line begun w. refl, tt)
one_nothing a change does outcome ErrorNote = (λ line begun w. refl, tt)
one_nothing a change does outcome WarnNote = (λ line begun w. refl, tt)
one_nothing a change does outcome (Halted phase hook) = (λ line begun w. refl, tt)
one_nothing a change does outcome (ProvisionStart i) = (λ line begun w. refl, tt)
one_nothing a change does outcome (ProvisionOutput i line) = (λ line begun w. refl, tt)
one_nothing a change does outcome (ProvisionComplete i) = (λ line begun w. refl, tt)
one_nothing a change does outcome (ProvisionErrored i) = (λ line begun w. refl, tt)

pub happened_nothing : (a : List ℕ) (plan : SavedPlan) (script : OutcomeMap) (es : List Event) → PlanNothing a (flat_map (event_read_back_in_form plan script) es)
happened_nothing a plan script [] = tt
happened_nothing a plan script (e ∷ es) = nothing_both a (event_read_back_in_form plan script e) (flat_map (event_read_back_in_form plan script) es) (of_change (slice_get plan.changes e.change)) (happened_nothing a plan script es)
  where
    of_words : (change : ResourceChange) (does : StepKind) (b : Bool) → PlanNothing a (cond b [] (read_back_in_form change does (outcome_of script e.change e.step) e.what ∷ []))
    of_words change does true = tt
    of_words change does false = one_nothing a change does (outcome_of script e.change e.step) e.what

    of_step : (change : ResourceChange) (o : Option StepKind) → PlanNothing a (option_map_or (λ does. cond (is_silent does e.what) [] (read_back_in_form change does (outcome_of script e.change e.step) e.what ∷ [])) o [])
    of_step change None = tt
    of_step change (Some does) = of_words change does (is_silent does e.what)

    of_change : (o : Option ResourceChange) → PlanNothing a (option_map_or (λ (change : ResourceChange). option_map_or (λ does. cond (is_silent does e.what) [] (read_back_in_form change does (outcome_of script e.change e.step) e.what ∷ [])) (slice_get change.steps e.step) []) o [])
    of_change None = tt
    of_change (Some change) = of_step change (slice_get change.steps e.step)

-- no more changes are planned than the plan has
pub planned_few : (details : List ChangeDetails) (low : ℕ) (changes : List ResourceChange) → length (flat_map (planned_read_back_at details) (enumerate_from low changes)) ≤ length changes
planned_few details low [] = omega arith
planned_few details low (change ∷ changes) =
    let both = length-append (planned_read_back_at details (low, change)) (flat_map (planned_read_back_at details) (enumerate_from (low + 1) changes)) in
    let rest = planned_few details (low + 1) changes in
    let one = of_details (slice_get details low) in
    omega arith
  where
    of_details : (o : Option ChangeDetails) → length (option_map_or (planned_read_back change) o []) ≤ 1
    of_details None = omega arith
    of_details (Some details) = of_word (planned_word change.steps details.forgets)
      where
        of_word : (o : Option (List ℕ)) → length (option_map_or (λ word. planned (intent_named word) (Some change.address) ∷ []) o []) ≤ 1
        of_word None = omega arith
        of_word (Some word) = omega arith
