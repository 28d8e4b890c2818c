-- Which step a line is taken to be of, where one step alone can be meant.
use Rattle.std.proofs.Common.{◌≡◌, ◌∙◌, ℕ, Bool, true, false, cond, ltb, List, [], ◌∷◌, filter, fold, map, Option, None, Some, refl, sym, ap, ◌⊎◌, inl, inr, ⊎_elim}
use Rattle.std.specs.List.{Contains, find}
use Rattle.std.specs.Option.{option_or}
use Rattle.std.proofs.lemmas.Bool.{cases_Bool}
use Rattle.apply_events.proofs.Waits.Members.{in_cases, in_head, in_tail, not_in_none}
use Rattle.stream_record_steps.specs.declared.begun_step.BegunStep.{BegunStep}
use Rattle.stream_record_steps.specs.Steps.{PlannedStep}
use Rattle.stream_record_steps.specs.UnderWay.{earlier, start_line}

-- each of the steps that pass the test stands at this place
abbrev pub LeadTo : (test : PlannedStep → Bool) → (place : ℕ) → List PlannedStep → Type 0
LeadTo test place steps = (step : PlannedStep) → Contains steps step → test step ≡ true → step.place ≡ place

-- ---- the first that is found

-- nothing, or a value that passes
abbrev pub IsNoneOr : {X : Type 0} → (X → Type 0) → Option X → Type 0
IsNoneOr {X} P found = (found ≡ None) ⊎ ((x : X) × (found ≡ Some x) × P x)

module _ (test : PlannedStep → Bool) where
  -- the step that is found passes, and is among the steps
  abbrev pub IsFound : List PlannedStep → PlannedStep → Type 0
  IsFound steps step = Contains steps step × (test step ≡ true)

  pub finds_some : (steps : List PlannedStep) → IsNoneOr (IsFound steps) (find test steps)
  finds_some [] = inl refl
  finds_some (y ∷ steps) = ⊎_elim
      (λ (passing : test y ≡ true). inr (y, ap (λ t. cond t (Some y) (find test steps)) passing, (in_head y steps, passing)))
      (λ (failing : test y ≡ false). ⊎_elim
      (λ (none : find test steps ≡ None). inl (ap (λ t. cond t (Some y) (find test steps)) failing ∙ none))
      (λ (some : (x : PlannedStep) × (find test steps ≡ Some x) × IsFound steps x).
      inr (some.0, ap (λ t. cond t (Some y) (find test steps)) failing ∙ some.1, (in_tail y steps some.0 some.2.0, some.2.1)))
      (finds_some steps))
      (cases_Bool (test y))

  pub finds_none : (steps : List PlannedStep) → find test steps ≡ None → (step : PlannedStep) → Contains steps step → test step ≡ true → ⊥
  finds_none [] none step has passing = not_in_none step has
  finds_none (y ∷ steps) none step has passing = ⊎_elim
      (λ (passes : test y ≡ true). let both : None ≡ Some y = sym none ∙ ap (λ t. cond t (Some y) (find test steps)) passes in absurd cc)
      (λ (failing : test y ≡ false). ⊎_elim
      (λ (same : y ≡ step). let both : true ≡ false = sym passing ∙ ap test (sym same) ∙ failing in absurd cc)
      (λ (there : Contains steps step). finds_none steps (sym (ap (λ t. cond t (Some y) (find test steps)) failing) ∙ none) step there passing)
      (in_cases y steps step has))
      (cases_Bool (test y))

  -- a step that passes is found, or another one that does
  pub finds : (steps : List PlannedStep) (step : PlannedStep) → Contains steps step → test step ≡ true
      → (found : PlannedStep) × (find test steps ≡ Some found) × IsFound steps found
  finds steps step has passing = ⊎_elim
      (λ (none : find test steps ≡ None). absurd (finds_none steps none step has passing))
      (λ (some : (x : PlannedStep) × (find test steps ≡ Some x) × IsFound steps x). some)
      (finds_some steps)

-- ---- the earliest

module _ (by_step : List (Option BegunStep)) (test : PlannedStep → Bool) (place : ℕ) where
  -- the place of the step that began first
  abbrev pub first_place : Option ℕ → List PlannedStep → Option ℕ
  first_place before steps = fold (earlier by_step) before (map (λ step. step.place) (filter test steps))

  same_again : (other : ℕ) → other ≡ place → earlier by_step (Some place) other ≡ Some place
  same_again other is = either (ltb (start_line by_step other) (start_line by_step place))
    where
      either : (less : Bool) → cond less (Some other) (Some place) ≡ Some place
      either true = ap Some is
      either false = refl

  in_rest : (y : PlannedStep) (steps : List PlannedStep) → LeadTo test place (y ∷ steps) → LeadTo test place steps
  in_rest y steps lead step has passing = lead step (in_tail y steps step has) passing

  passed : (before : Option ℕ) (y : PlannedStep) (steps : List PlannedStep) → test y ≡ true → first_place before (y ∷ steps) ≡ first_place (earlier by_step before y.place) steps
  passed before y steps passing = ap (λ t. fold (earlier by_step) before (map (λ step. step.place) (cond t (y ∷ filter test steps) (filter test steps)))) passing

  left_out : (before : Option ℕ) (y : PlannedStep) (steps : List PlannedStep) → test y ≡ false → first_place before (y ∷ steps) ≡ first_place before steps
  left_out before y steps failing = ap (λ t. fold (earlier by_step) before (map (λ step. step.place) (cond t (y ∷ filter test steps) (filter test steps)))) failing

  stays : (steps : List PlannedStep) → LeadTo test place steps → first_place (Some place) steps ≡ Some place
  stays [] lead = refl
  stays (y ∷ steps) lead = ⊎_elim
      (λ (passing : test y ≡ true).
      passed (Some place) y steps passing ∙ ap (λ o. first_place o steps) (same_again y.place (lead y (in_head y steps) passing)) ∙ stays steps (in_rest y steps lead))
      (λ (failing : test y ≡ false). left_out (Some place) y steps failing ∙ stays steps (in_rest y steps lead))
      (cases_Bool (test y))

  begins_with : (y : PlannedStep) (steps : List PlannedStep) → LeadTo test place (y ∷ steps) → test y ≡ true → first_place None (y ∷ steps) ≡ Some place
  begins_with y steps lead passing =
      passed None y steps passing ∙ ap (λ p. first_place (Some p) steps) (lead y (in_head y steps) passing) ∙ stays steps (in_rest y steps lead)

  -- nothing, or that place
  pub none_or_place : (steps : List PlannedStep) → LeadTo test place steps → (first_place None steps ≡ None) ⊎ (first_place None steps ≡ Some place)
  none_or_place [] lead = inl refl
  none_or_place (y ∷ steps) lead = ⊎_elim
      (λ (passing : test y ≡ true). inr (begins_with y steps lead passing))
      (λ (failing : test y ≡ false). ⊎_elim
      (λ (none : first_place None steps ≡ None). inl (left_out None y steps failing ∙ none))
      (λ (some : first_place None steps ≡ Some place). inr (left_out None y steps failing ∙ some))
      (none_or_place steps (in_rest y steps lead)))
      (cases_Bool (test y))

  -- that place, where one of the steps passes
  pub leads_to : (steps : List PlannedStep) (step : PlannedStep) → LeadTo test place steps → Contains steps step → test step ≡ true → first_place None steps ≡ Some place
  leads_to [] step lead has passes = absurd (not_in_none step has)
  leads_to (y ∷ steps) step lead has passes = ⊎_elim
      (λ (passing : test y ≡ true). begins_with y steps lead passing)
      (λ (failing : test y ≡ false). ⊎_elim
      (λ (same : y ≡ step). let both : true ≡ false = sym passes ∙ ap test (sym same) ∙ failing in absurd cc)
      (λ (there : Contains steps step). left_out None y steps failing ∙ leads_to steps step (in_rest y steps lead) there passes)
      (in_cases y steps step has))
      (cases_Bool (test y))

-- ---- one place, else another

pub either_place : (place : ℕ) (first second : Option ℕ) → (first ≡ None) ⊎ (first ≡ Some place) → second ≡ Some place → option_or first second ≡ Some place
either_place place first second one is = ⊎_elim
    (λ (none : first ≡ None). ap (λ o. option_or o second) none ∙ is)
    (λ (some : first ≡ Some place). ap (λ o. option_or o second) some)
    one
