-- The steps of a change, by number.
use Rattle.std.proofs.Common.{◌≡◌, ℕ, zero, suc, ◌+◌, ◌<◌, ◌≤◌, List, [], ◌∷◌, length, map, drop, Option, Some, None, IfSome, IfNone, refl, sym, ap, subst₂, arith, add-zero, add-one}
use Rattle.std.specs.Prelude.{slice_get}
use Rattle.std.specs.List.{enumerate_from}
use Rattle.apply_model.specs.declared.plan.step_kind.StepKind.{StepKind}
use Rattle.apply_model.specs.Plan.SavedPlan.{SavedPlan}
use Rattle.apply_events.specs.declared.event.Event.{Event}
use Rattle.apply_events.specs.Fits.{HasStep}
use Rattle.apply_events.specs.Step.{Work, kinds_applied, step_of, steps_of}
use Rattle.apply_events.proofs.AppliedSteps.{applied_planned}

-- the item at a number, and the items after it
drop-answer : {X Y : Type 0} (f : ℕ × X → Y) (xs : List X) (n k : ℕ) (x : X)
    → slice_get xs k ≡ Some x → drop k (map f (enumerate_from n xs)) ≡ f (n + k, x) ∷ drop (suc k) (map f (enumerate_from n xs))
drop-answer f [] n k x h = cc
drop-answer f (y ∷ xs) n zero x h =
    let same : y ≡ x = cc in
    rw (same, add-zero n) refl
drop-answer f (y ∷ xs) n (suc k) x h =
    let place : n + 1 + k ≡ n + suc k = omega arith in
    rw (← place) (drop-answer f xs (n + 1) k x h)

drop-missed : {X Y : Type 0} (f : ℕ × X → Y) (xs : List X) (n k : ℕ) → slice_get xs k ≡ None → drop k (map f (enumerate_from n xs)) ≡ []
drop-missed f [] n zero h = refl
drop-missed f [] n (suc k) h = refl
drop-missed f (y ∷ xs) n zero h = cc
drop-missed f (y ∷ xs) n (suc k) h = drop-missed f xs (n + 1) k h

below : {X : Type 0} (xs : List X) (k : ℕ) (x : X) → slice_get xs k ≡ Some x → k < length xs
below [] k x h = cc
below (y ∷ xs) zero x h = omega arith
below (y ∷ xs) (suc k) x h = let less : k < length xs = below xs k x h in omega arith

-- the current step, and the steps after it
pub at_hand : (work : Work) (c k : ℕ) (kinds : List StepKind) (answer : Option StepKind)
    → kinds ≡ kinds_applied work.plan work.script c → answer ≡ slice_get kinds k
    → IfSome answer (λ kind. drop k (steps_of work c) ≡ step_of work c k kind ∷ drop (k + 1) (steps_of work c))
at_hand work c k kinds None is lookup = tt
at_hand work c k kinds (Some kind) is lookup =
    rw (add-one, ← is)
    (let e : 0 + k ≡ k = omega arith in rw e at (drop-answer (λ p. step_of work c p.0 p.1) kinds 0 k kind (sym lookup)))

-- no step is at hand
pub none_at_hand : (work : Work) (c k : ℕ) (kinds : List StepKind) (answer : Option StepKind)
    → kinds ≡ kinds_applied work.plan work.script c → answer ≡ slice_get kinds k
    → IfNone answer (drop k (steps_of work c) ≡ [])
none_at_hand work c k kinds None is lookup =
    rw (← is) (drop-missed (λ p. step_of work c p.0 p.1) kinds 0 k (sym lookup))
none_at_hand work c k kinds (Some kind) is lookup = tt

pub at_hand_few : (kinds : List StepKind) (k : ℕ) (answer : Option StepKind) → length kinds ≤ 2 → answer ≡ slice_get kinds k → IfSome answer (λ kind. k < 2)
at_hand_few kinds k None few lookup = tt
at_hand_few kinds k (Some kind) few lookup = let less : k < length kinds = below kinds k kind (sym lookup) in omega arith

pub at_hand_is : (work : Work) (c k : ℕ) (kinds : List StepKind) (answer : Option StepKind)
    → kinds ≡ kinds_applied work.plan work.script c → answer ≡ slice_get kinds k → IfSome answer (λ kind. HasStep work.plan c k)
at_hand_is work c k kinds None is lookup = tt
at_hand_is work c k kinds (Some kind) is lookup =
    let less : k < length kinds = below kinds k kind (sym lookup) in
    let size = ap length is in
    applied_planned work.plan work.script c k (omega arith)

-- an event of the step at hand
pub has_same_step : (plan : SavedPlan) (c k : ℕ) (e : Event) → HasStep plan c k → e.change ≡ c → e.step ≡ k → HasStep plan e.change e.step
has_same_step plan c k e has change step = subst₂ (HasStep plan) (sym change) (sym step) has
