-- If the first bytes of an input are a plan, and one byte more than a plan may have was asked for,
-- they are the whole input.
use Rattle.std.proofs.Common.{◌≡◌, ℕ, ◌+◌, ◌<◌, ◌≤◌, List, length, take, true, nat_lt, Option, None, Some, IfSome, Ok, Err, refl, sym, ◌∙◌, arith, take_all, ⊎_elim}
use Rattle.std.proofs.lemmas.List.{length-take}
use Rattle.std.proofs.lemmas.Bool.{cases_lt, lt-ltb}
use Rattle.apply_plan.specs.declared.plan.plan_error.PlanError.TheVariants.{TooLarge}
use Rattle.apply_plan.specs.declared.script.script_error.ScriptError.TheVariants as script_error
use Rattle.apply_plan.specs.Bytes.{max_bytes}
use Rattle.apply_plan.specs.Plan.SavedPlan.{SavedPlan, plan_of}
use Rattle.apply_plan.specs.Script.OutcomeMap.{OutcomeMap, script_of}

pub too_large : (bytes : List ℕ) → max_bytes < length bytes → plan_of bytes ≡ Err TooLarge
unfolding plan_of
too_large bytes long = let more : nat_lt max_bytes (length bytes) ≡ true = lt-ltb _ _ long in rw more refl

pub small : (bytes : List ℕ) (plan : SavedPlan) → plan_of bytes ≡ Ok plan → length bytes ≤ max_bytes
small bytes plan is =
    ⊎_elim (λ (long : max_bytes < length bytes). let refused = too_large bytes long in absurd cc) (λ (short : length bytes ≤ max_bytes). short) (cases_lt max_bytes (length bytes))

-- the limit stands as a variable, so that no tactic counts up to it
pub whole_by : (limit : ℕ) (all bytes : List ℕ) → bytes ≡ take (limit + 1) all → length bytes ≤ limit → all ≡ bytes
whole_by limit all bytes front short =
    ⊎_elim
    (λ (long : limit < length all).
    let cut : length (take (limit + 1) all) ≤ limit = rw (← front) short in
    absurd (omega (arith, length-take (limit + 1) all)))
    (λ (fits : length all ≤ limit). let within : length all ≤ limit + 1 = omega arith in sym (front ∙ take_all (limit + 1) all within))
    (cases_lt limit (length all))

pub whole : (known : Option (List ℕ)) (bytes : List ℕ) (plan : SavedPlan) → IfSome known (λ all. bytes ≡ take (max_bytes + 1) all) → plan_of bytes ≡ Ok plan → IfSome known (λ all. all ≡ bytes)
whole None bytes plan front is = tt
whole (Some all) bytes plan front is = whole_by max_bytes all bytes front (small bytes plan is)

-- ---- a script

script_too_large : (plan : SavedPlan) (bytes : List ℕ) → max_bytes < length bytes → script_of plan bytes ≡ Err script_error.TooLarge
unfolding script_of
script_too_large plan bytes long = let more : nat_lt max_bytes (length bytes) ≡ true = lt-ltb _ _ long in rw more refl

pub small_script : (plan : SavedPlan) (script : OutcomeMap) (bytes : List ℕ) → script_of plan bytes ≡ Ok script → length bytes ≤ max_bytes
small_script plan script bytes is =
    ⊎_elim (λ (long : max_bytes < length bytes). let refused = script_too_large plan bytes long in absurd cc) (λ (short : length bytes ≤ max_bytes). short) (cases_lt max_bytes (length bytes))
