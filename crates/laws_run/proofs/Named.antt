-- The steps that a script names.
use Rattle.std.proofs.Common.{◌≡◌, ℕ, zero, suc, Bool, true, false, ◌||◌, List, [], ◌∷◌, Option, Some, None, length, refl, sym, ◌∙◌, arith, ltb, lt-ltb}
use Rattle.std.specs.Prelude.{option_and_then, slice_get, unwrap_or}
use Rattle.std.specs.List.{list_any}
use Rattle.std.specs.Option.{option_map_or}
use Rattle.std.proofs.lemmas.Bool.{true≢false}
use Rattle.apply_model.specs.declared.script.script_step.ScriptStep.{ScriptStep}
use Rattle.apply_model.specs.declared.script.script_step.ScriptStep.TheVariants.{Answered, Skipped}
use Rattle.apply_model.specs.declared.script.wait.Wait.{Wait}
use Rattle.apply_model.specs.Script.Outcome.{default_outcome}
use Rattle.apply_model.specs.Script.OutcomeMap.{outcome_of}
use Rattle.apply_model.specs.Script.Step.{answer_to}
use Rattle.apply_model.specs.Script.Waits.{has_a_wait, has_waits, states_a_wait}
use Rattle.apply_events.specs.Step.{Work}

-- the steps that the script names for step k of change c
abbrev pub named : Work → (c k : ℕ) → List Wait
named w c k = (outcome_of w.script c k).after

abbrev pub names_some : List Wait → Bool
names_some names = ltb 0 (length names)

-- ---- a script that names none

or_none : (a b : Bool) → (a || b) ≡ false → (a ≡ false) × (b ≡ false)
or_none true b is = absurd (true≢false is)
or_none false b is = (refl, is)

get_none : {X : Type 0} (p : X → Bool) (xs : List X) (k : ℕ) → list_any p xs ≡ false → option_map_or p (slice_get xs k) false ≡ false
get_none p [] zero none = refl
get_none p [] (suc k) none = refl
get_none p (x ∷ xs) zero none = (or_none (p x) (list_any p xs) none).0
get_none p (x ∷ xs) (suc k) none = get_none p xs k (or_none (p x) (list_any p xs) none).1

no_list : (names : List Wait) → names_some names ≡ false → names ≡ []
no_list [] none = refl
no_list (name ∷ names) none = absurd (true≢false (sym (lt-ltb 0 (length (name ∷ names)) (omega arith)) ∙ none))

step_names_none : (located : Option ScriptStep) → option_map_or has_a_wait located false ≡ false → (unwrap_or (option_and_then answer_to located) default_outcome).after ≡ []
step_names_none None none = refl
step_names_none (Some (Answered outcome)) none = no_list outcome.after none
step_names_none (Some (Skipped after)) none = refl

stated_names_none : (stated : Option (List ScriptStep)) (k : ℕ) → states_a_wait stated ≡ false
    → (unwrap_or (option_and_then answer_to (option_and_then (λ (steps : List ScriptStep). slice_get steps k) stated)) default_outcome).after ≡ []
stated_names_none None k none = refl
stated_names_none (Some steps) k none = step_names_none (slice_get steps k) (get_none has_a_wait steps k none)

script_names_none : (located : Option (Option (List ScriptStep))) (k : ℕ) → option_map_or states_a_wait located false ≡ false
    → (unwrap_or (option_and_then answer_to (option_and_then (λ (steps : List ScriptStep). slice_get steps k) (option_and_then (λ (stated : Option (List ScriptStep)). stated) located))) default_outcome).after ≡ []
script_names_none None k none = refl
script_names_none (Some stated) k none = stated_names_none stated k none

pub names_none : (w : Work) → has_waits w.script ≡ false → (c k : ℕ) → named w c k ≡ []
names_none w none c k = script_names_none (slice_get w.script c) k (get_none states_a_wait w.script c none)
