-- Progress of a step, which leaves open what stands open.
use Rattle.std.proofs.Common.{◌≡◌, ℕ, List, true, false, cond, Option, Some, Result, Ok, Err, refl, sym, ap, ◌∙◌, ⊎_elim}
use Rattle.std.specs.Prelude.{IfErr, OnErr, OnOk, unwrap_or}
use Rattle.std.specs.Str.{bytes_eq}
use Rattle.std.proofs.lemmas.Bool.{cases_Bool}
use Rattle.std.proofs.lemmas.Slice.Eq.{bytes_eq-Decides}
use Rattle.stream_check.specs.declared.messages.action.Action.{Action}
use Rattle.stream_check.specs.declared.messages.timed_stage.TimedStage.TheVariants.{Progress}
use Rattle.stream_check.specs.declared.rules.fault.Fault.{Fault}
use Rattle.stream_check.specs.declared.rules.address_state.AddressState.{AddressState}
use Rattle.stream_check.specs.Course.{after}
use Rattle.stream_check.specs.Results.{mapped}
use Rattle.stream_check.specs.AddressState.{idle, is_idle, pending_at, step_on, unless_idle}

pub progress_faulty : (k : Action) (seconds line : ℕ) (s : AddressState) (fault : Fault) → after k (Progress seconds) line (pending_at k s) ≡ Err fault → step_on k (Progress seconds) line s ≡ Err fault
progress_faulty k seconds line s fault e = rw e refl

-- setting what is there changes nothing
set_same : (f : List ℕ → Option AddressState) (a b : List ℕ) (s : AddressState) → f a ≡ Some s → cond (bytes_eq a b) (Some s) (f b) ≡ f b
set_same f a b s there =
    ⊎_elim (λ (yes : bytes_eq a b ≡ true). let same : a ≡ b = (bytes_eq-Decides a b).0 yes in rw yes (sym there ∙ ap f same))
    (λ (no : bytes_eq a b ≡ false). rw no refl)
    (cases_Bool (bytes_eq a b))

-- what a map has after progress at an address, of which that of the address ends as `t`
pub all_stepped : (r : Result (Unit {0}) Fault) (k : Action) (seconds line : ℕ) (a : List ℕ) (old new : List ℕ → Option AddressState) (s t : AddressState) → old a ≡ Some s
    → mapped (λ _. t) r ≡ step_on k (Progress seconds) line s → OnOk r (is_idle t ≡ false) → OnErr r (t ≡ s) → ((b : List ℕ) → new b ≡ cond (bytes_eq a b) (Some t) (old b))
    → OnOk r ((state : AddressState) × (step_on k (Progress seconds) line (unwrap_or (old a) idle) ≡ Ok state) × ((b : List ℕ) → new b ≡ cond (bytes_eq a b) (unless_idle state) (old b)))
    × IfErr r (λ fault. (step_on k (Progress seconds) line (unwrap_or (old a) idle) ≡ Err fault) × ((b : List ℕ) → new b ≡ old b))
all_stepped (Ok done) k seconds line a old new s t there stepped stays kept set = ((t, rw there (sym stepped), λ b. rw stays (set b)), tt)
all_stepped (Err fault) k seconds line a old new s t there stepped stays kept set = (tt, (rw there (sym stepped), λ b. (rw kept at (set b)) ∙ set_same old a b s there))
