-- The steps of a plan, and the waits for them.
use Rattle.std.proofs.Common.{◌≡◌, ◌∙◌, ◌+◌, ℕ, zero, suc, List, [], ◌∷◌, ◌++◌, length, map, Option, None, Some, refl, sym, ap, ap₂, arith}
use Rattle.std.specs.Prelude.{option_map, slice_get}
use Rattle.std.specs.List.{Contains, cons_option}
use Rattle.std.proofs.lemmas.List.{map-append}
use Rattle.std.proofs.lemmas.Option.{get_or_from_slice_get, slice_get-map, slice_get_within}
use Rattle.apply_model.specs.declared.plan.step_kind.StepKind.{StepKind}
use Rattle.apply_model.specs.declared.script.wait.Wait.{Wait}
use Rattle.apply_model.specs.Plan.ResourceChange.{ResourceChange}
use Rattle.stream_record.specs.EvenScript as even
use Rattle.stream_record.specs.EvenScript.{steps_at}
use Rattle.stream_record_steps.specs.Steps.{PlannedStep, planned_from, planned_steps, steps_from}

abbrev pub wait_of : PlannedStep → Wait
wait_of step = record { change = step.change_number; step = step.number }

same_steps : (change : ResourceChange) (c number place : ℕ) (kinds : List StepKind) → even.steps_from c number kinds ≡ map wait_of (steps_from change c number place kinds)
same_steps change c number place [] = refl
same_steps change c number place (kind ∷ kinds) =
    ap (λ (rest : List Wait). record { change = c; step = number } ∷ rest) (same_steps change c (number + 1) (place + 1) kinds)

pub same_planned : (changes : List ResourceChange) (n place : ℕ) → even.planned_from n changes ≡ map wait_of (planned_from n place changes)
same_planned [] n place = refl
same_planned (change ∷ changes) n place =
    ap₂ (λ (xs ys : List Wait). xs ++ ys) (same_steps change n 0 place change.steps) (same_planned changes (n + 1) (place + length change.steps))
    ∙ sym (map-append wait_of (steps_from change n 0 place change.steps) (planned_from (n + 1) (place + length change.steps) changes))

pub wait_at : (changes : List ResourceChange) (i : ℕ) → slice_get (even.planned_steps changes) i ≡ option_map wait_of (slice_get (planned_steps changes) i)
wait_at changes i = ap (λ (ws : List Wait). slice_get ws i) (same_planned changes 0 0) ∙ slice_get-map wait_of (planned_steps changes) i

waited_by : (o : Option PlannedStep) (wait : Wait) → option_map wait_of o ≡ Some wait → (step : PlannedStep) × (o ≡ Some step) × (wait ≡ wait_of step)
waited_by None wait is = cc
waited_by (Some step) wait is = let same : wait ≡ wait_of step = cc in (step, refl, same)

-- the step that is waited for
pub waited : (changes : List ResourceChange) (i : ℕ) (wait : Wait) → slice_get (even.planned_steps changes) i ≡ Some wait
    → (step : PlannedStep) × (slice_get (planned_steps changes) i ≡ Some step) × (wait ≡ wait_of step)
waited changes i wait at = waited_by (slice_get (planned_steps changes) i) wait (sym (wait_at changes i) ∙ at)

-- ---- the steps with some numbers

pub contains_at : {X : Type 0} (xs : List X) (k : ℕ) (x : X) → slice_get xs k ≡ Some x → Contains xs x
contains_at xs k x at = (k, slice_get_within xs k x at, get_or_from_slice_get xs k x x at)

contains_later : {X : Type 0} (xs : List X) (y x : X) → Contains xs x → Contains (y ∷ xs) x
contains_later xs y x (k, less, is) = (suc k, (omega (arith, less)), is)

-- each is of one of the numbers
pub of_number : (planned : List Wait) (numbers : List ℕ) (m : ℕ) (wait : Wait) → slice_get (steps_at planned numbers) m ≡ Some wait
    → (number : ℕ) × Contains numbers number × (slice_get planned number ≡ Some wait)
of_number planned [] m wait at = absurd cc
of_number planned (n ∷ ns) m wait at = of (slice_get planned n) refl m at (of_number planned ns)
  where
    of : (o : Option Wait) → slice_get planned n ≡ o → (m : ℕ) → slice_get (cons_option o (steps_at planned ns)) m ≡ Some wait
        → ((m : ℕ) (wait : Wait) → slice_get (steps_at planned ns) m ≡ Some wait → (number : ℕ) × Contains ns number × (slice_get planned number ≡ Some wait))
        → (number : ℕ) × Contains (n ∷ ns) number × (slice_get planned number ≡ Some wait)
    of None is m at rest = let later = rest m wait at in (later.0, contains_later ns n later.0 later.1, later.2)
    of (Some first) is zero at rest = (n, contains_at (n ∷ ns) 0 n refl, is ∙ at)
    of (Some first) is (suc m) at rest = let later = rest m wait at in (later.0, contains_later ns n later.0 later.1, later.2)
