-- The number of the step that a script names.
use Rattle.std.proofs.Common.{◌≡◌, ℕ, ◌<◌, ◌≤◌, Option, Some, None, refl}
use Rattle.std.proofs.lemmas.Bool.{le-ltb, lt-ltb}
use Rattle.apply_resolve.specs.WaitedStep.{waited_number, waited_step}

pub has_one : (step : Option ℕ) (count number : ℕ) → number ≡ waited_number count step → number < count → Some number ≡ waited_step count step
has_one step count number is below = rw (← is, lt-ltb number count below) refl

pub has_none : (step : Option ℕ) (count number : ℕ) → number ≡ waited_number count step → count ≤ number → None ≡ waited_step count step
has_none step count number is above = rw (← is, le-ltb number count above) refl
