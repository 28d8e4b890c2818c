-- Creates of a plan that never start, and what a checker finds of them in Terraform's form, which
-- names each planned change.
use Rattle.std.specs.Prelude.{◌≡◌, ◌↔◌, ◌⊎◌, ◌&&◌, ℕ, List, Bool, true, false, is_some, slice_get, None, Some, Result, Ok, Err}
use Rattle.std.specs.List.{list_any}
use Rattle.apply_model.specs.declared.plan.step_kind.StepKind.TheVariants.{Create}
use Rattle.apply_model.specs.declared.script.wait.Wait.{Wait}
use Rattle.apply_model.specs.Plan.SavedPlan.{SavedPlan}
use Rattle.apply_events.specs.declared.event.Event.{Event}
use Rattle.apply_events.specs.Step.{Work, address_of, kinds_of}
use Rattle.stream_check.specs.declared.rules.fault.Fault.TheVariants.{Planned}
use Rattle.stream_check.specs.declared.verdict.finding.Finding.{Finding}
use Rattle.stream_check.specs.declared.verdict.whole.Whole.{Whole}
use Rattle.stream_check.specs.Message.{Message}
use Rattle.stream_check.specs.Unbegun.{unbegun_at}
use Rattle.laws_run.specs.ChangesUnderWay.{is_start}
use Rattle.laws_run.specs.WaitingSteps.{WaitsInVain, is_of_step, skips}

-- the step starts among these events
abbrev pub has_started : List Event → Wait → Bool
has_started events name = list_any (λ event. is_of_step name event && is_start event.what) events

-- a create of the plan, of the object at that address, never starts
abbrev pub NeverStarts : SavedPlan → List Event → (address : List ℕ) → Type 0
NeverStarts plan events address =
    (c : ℕ) × (k : ℕ) × (slice_get (kinds_of plan c) k ≡ Some Create) × (address_of plan c ≡ address)
    × (has_started events (record { change = c; step = k }) ≡ false)

-- a create of the plan, of the object at that address, is skipped or waits in vain
abbrev pub IsLeftOut : Work → List Event → (address : List ℕ) → Type 0
IsLeftOut work events address =
    (c : ℕ) × (k : ℕ) × (slice_get (kinds_of work.plan c) k ≡ Some Create) × (address_of work.plan c ≡ address)
    × ((skips work.script (record { change = c; step = k }) ≡ true) ⊎ WaitsInVain work events (record { change = c; step = k }))

-- each create of the plan starts
abbrev pub EachStarts : SavedPlan → List Event → Type 0
EachStarts plan events = (address : List ℕ) → NeverStarts plan events address → ⊥

-- The answer about the stream of these events is that it is whole, with an error or where each
-- create starts. Else it is that fault.
pub record IsAnswered (plan : SavedPlan) (events : List Event) (whole : Whole) (E : Type 0) (left_out : E) (answer : Result Whole E) : Type 0 where
  pub is_whole : (whole.has_errors ≡ true) ⊎ EachStarts plan events → answer ≡ Ok whole
  pub leaves : whole.has_errors ≡ false → (address : List ℕ) → NeverStarts plan events address → answer ≡ Err left_out

-- the verdict: the fault is told at the last line
abbrev pub IsJudged : SavedPlan → List Event → Whole → (verdict : Result Whole Finding) → Type 0
IsJudged plan events whole verdict =
    IsAnswered plan events whole Finding (record { line = whole.lines; fault = Planned; passed = None }) verdict

-- a checker that has read these messages finds at each address just the creates that never start
abbrev pub FindsUnstarted : SavedPlan → List Event → List Message → Type 0
FindsUnstarted plan events messages =
    (address : List ℕ) → (is_some (unbegun_at address messages) ≡ true) ↔ NeverStarts plan events address
