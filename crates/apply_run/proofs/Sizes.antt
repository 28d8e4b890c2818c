-- What was read is not too large.
use Rattle.std.proofs.Common.{◌≡◌, ◌≤◌, ℕ, length, Bool, true, false, List, Option, Some, None, Result, Ok, Err, refl}
use Rattle.std.specs.Prelude.{nat_lt, if◌then◌else◌, IfSome}
use Rattle.std.proofs.lemmas.Bool.{ltb-false}
use Rattle.apply_plan.specs.Bytes.{max_bytes}
use Rattle.apply_plan.specs.Plan.SavedPlan.{SavedPlan, plan_of}
use Rattle.apply_plan.specs.Script.OutcomeMap.{OutcomeMap, script_of}
use Rattle.apply_run.specs.Bytes.{given_script}

not_refused : {X E : Type 0} (b : Bool) (refusal : E) (rest : Result X E) (x : X) → (if b then Err refusal else rest) ≡ Ok x → b ≡ false
not_refused true refusal rest x is = absurd cc
not_refused false refusal rest x is = refl

pub plan_within : (bytes : List ℕ) (plan : SavedPlan) → plan_of bytes ≡ Ok plan → length bytes ≤ max_bytes
unfolding plan_of
plan_within bytes plan is = ltb-false _ _ (not_refused (nat_lt max_bytes (length bytes)) _ _ plan is)

script_bytes_within : (plan : SavedPlan) (bytes : List ℕ) (script : OutcomeMap) → script_of plan bytes ≡ Ok script → length bytes ≤ max_bytes
unfolding script_of
script_bytes_within plan bytes script is = ltb-false _ _ (not_refused (nat_lt max_bytes (length bytes)) _ _ script is)

pub script_within : (plan : SavedPlan) (bytes : Option (List ℕ)) (script : OutcomeMap) → given_script plan bytes ≡ Ok script → IfSome bytes (λ some. length some ≤ max_bytes)
script_within plan None script is = tt
script_within plan (Some bytes) script is = script_bytes_within plan bytes script is
