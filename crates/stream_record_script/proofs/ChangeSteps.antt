-- The steps of a script, one after another, and change by change.
use Rattle.std.proofs.Common.{◌≡◌, ◌∙◌, ℕ, ◌+◌, ◌<◌, [], ◌∷◌, ◌++◌, List, Option, Some, None, ap, append_assoc, arith, drop, get_or, length, refl, sym}
use Rattle.std.specs.Prelude.{option_to_list, slice_get}
use Rattle.std.specs.Option.{option_flatten}
use Rattle.std.proofs.lemmas.List.{drop_more}
use Rattle.apply_model.specs.declared.plan.step_kind.StepKind.{StepKind}
use Rattle.apply_model.specs.declared.plan.step_kind.StepKind.TheVariants.{Create}
use Rattle.apply_model.specs.declared.script.script_step.ScriptStep.{ScriptStep}
use Rattle.apply_model.specs.declared.script.wait.Wait.{Wait}
use Rattle.apply_model.specs.Plan.ResourceChange.{ResourceChange}
use Rattle.stream_record.proofs.Items.{drop_item}
use Rattle.stream_record_outcomes.specs.declared.recorded_step.RecordedStep.{RecordedStep}
use Rattle.stream_record_script.specs.Steps.{by_change, first_steps, other_steps, script_steps}

no_first : (kinds : List StepKind) → first_steps kinds [] ≡ []
no_first [] = refl
no_first (kind ∷ kinds) = refl

no_others : (kinds : List StepKind) → other_steps kinds [] ≡ []
no_others [] = refl
no_others (kind ∷ kinds) = refl

-- what a change takes first
first_taken : (kind : StepKind) (kinds : List StepKind) (steps after : List (Option ScriptStep)) (taken : Option (Option ScriptStep))
    → steps ≡ option_to_list taken ++ after → after ≡ drop 1 steps
    → first_steps (kind ∷ kinds) steps ≡ option_to_list (option_flatten taken) ++ first_steps kinds after
first_taken kind kinds [] after None is rest = sym (ap (first_steps kinds) (sym is) ∙ no_first kinds)
first_taken kind kinds [] after (Some step) is rest = cc
first_taken kind kinds (step ∷ steps) after None is rest = absurd (omega (arith, ap length is, ap length rest))
first_taken kind kinds (step ∷ steps) after (Some own) is rest = cc

others_taken : (kind : StepKind) (kinds : List StepKind) (steps after : List (Option ScriptStep)) (taken : Option (Option ScriptStep))
    → steps ≡ option_to_list taken ++ after → after ≡ drop 1 steps
    → other_steps (kind ∷ kinds) steps ≡ other_steps kinds after
others_taken kind kinds [] after None is rest = sym (ap (other_steps kinds) (sym is) ∙ no_others kinds)
others_taken kind kinds [] after (Some step) is rest = cc
others_taken kind kinds (step ∷ steps) after None is rest = absurd (omega (arith, ap length is, ap length rest))
others_taken kind kinds (step ∷ steps) after (Some own) is rest = cc

module _ (kinds : List StepKind) (i : ℕ) (below : i < length kinds) (steps after : List (Option ScriptStep)) (taken : Option (Option ScriptStep))
    (is : steps ≡ option_to_list taken ++ after) (rest : after ≡ drop 1 steps) where
  -- one kind more
  pub first_more : (before pushed whole : List ScriptStep) → pushed ≡ before ++ option_to_list (option_flatten taken)
      → before ++ first_steps (drop i kinds) steps ≡ whole → pushed ++ first_steps (drop (i + 1) kinds) after ≡ whole
  first_more before pushed whole added so_far =
      let left = drop (i + 1) kinds in
      ap (λ own. own ++ first_steps left after) added
      ∙ append_assoc before (option_to_list (option_flatten taken)) (first_steps left after)
      ∙ ap (λ own. before ++ own) (sym (ap (λ ks. first_steps ks steps) (drop_more kinds i Create below) ∙ first_taken (get_or kinds i Create) left steps after taken is rest))
      ∙ so_far

  pub others_more : (whole : List (Option ScriptStep)) → other_steps (drop i kinds) steps ≡ whole → other_steps (drop (i + 1) kinds) after ≡ whole
  others_more whole so_far =
      let left = drop (i + 1) kinds in
      sym (ap (λ ks. other_steps ks steps) (drop_more kinds i Create below) ∙ others_taken (get_or kinds i Create) left steps after taken is rest) ∙ so_far

-- one change more
pub by_change_more : (changes : List ResourceChange) (number : ℕ) (change : ResourceChange) (steps : List (Option ScriptStep))
    → Some change ≡ slice_get changes number
    → by_change (drop number changes) steps ≡ Some (first_steps change.steps steps) ∷ by_change (drop (number + 1) changes) (other_steps change.steps steps)
by_change_more changes number change steps is = ap (λ cs. by_change cs steps) (drop_item changes number change is)

-- ---- the end of the steps

pub no_states : (planned : List Wait) (waits : List (List ℕ)) (place : ℕ) (recorded : List (Option RecordedStep)) → script_steps planned waits place recorded [] ≡ []
no_states planned waits place [] = refl
no_states planned waits place (found ∷ recorded) = refl

pub none_left : {A : Type 0} (items after : List A) → items ≡ after → after ≡ drop 1 items → items ≡ []
none_left [] after is rest = refl
none_left (item ∷ items) after is rest = absurd (omega (arith, ap length is, ap length rest))
