-- What holds of the waits of a plan and a script that were read.
use Rattle.std.specs.Prelude.{◌≡◌, ◌↔◌, ◌⊎◌, ℕ, List, true, false, ◌<◌, Some, length, slice_get}
use Rattle.apply_model.specs.declared.script.wait.Wait.{Wait}
use Rattle.apply_model.specs.Script.Waits.{could_begin, stated_waits}
use Rattle.apply_events.specs.declared.event.Event.{Event}
use Rattle.apply_events.specs.Fits.{HasStep}
use Rattle.apply_events.specs.Step.{Work}
use Rattle.laws_run.specs.WaitingSteps.{WaitsInVain, has_events, has_stopped, skips}
use Rattle.apply_model.specs.Script.OutcomeMap.{OutcomeMap}

-- each step of the plan could begin
abbrev pub CanAllBegin : Work → Type 0
CanAllBegin work = (c k : ℕ) → HasStep work.plan c k → could_begin work.script c k ≡ true

-- a step of the plan has no event if and only if the step is skipped or waits in vain
abbrev pub LeaveOutJustWhatWaitsInVain : Work → List Event → Type 0
LeaveOutJustWhatWaitsInVain work events = (c k : ℕ) → HasStep work.plan c k
    → (has_events events (record { change = c; step = k }) ≡ false
    ↔ ((skips work.script (record { change = c; step = k }) ≡ true) ⊎ WaitsInVain work events (record { change = c; step = k })))

-- if no step has stopped or is skipped, each step of the plan has events
abbrev pub LeaveOutNone : Work → List Event → Type 0
LeaveOutNone work events = ((name : Wait) → has_stopped work events name ≡ false) → ((name : Wait) → skips work.script name ≡ false)
    → (c k : ℕ) → HasStep work.plan c k → has_events events (record { change = c; step = k }) ≡ true

-- ---- steps that could begin, without rounds

-- A step could begin if each step could that it waits for, by the waits that the script states. No
-- other step could. It does not matter whether the step is skipped.
pub data CouldBegin (script : OutcomeMap) : (c k : ℕ) → Type 0 where
  waits_could_begin : (c k : ℕ) → ((i : ℕ) (wait : Wait) → slice_get (stated_waits script c k) i ≡ Some wait → CouldBegin script wait.change wait.step) → CouldBegin script c k

-- the two steps that a change has at most wait only for steps of changes of this script
abbrev pub WaitsWithin : OutcomeMap → Type 0
WaitsWithin script = (c k i : ℕ) (wait : Wait) → c < length script → k < 2 → slice_get (stated_waits script c k) i ≡ Some wait → (wait.change < length script) × (wait.step < 2)
