-- A step that only warns is done.
use Rattle.std.proofs.Common.{◌≡◌, Bool, true, false, ◌&&◌, List, Some, refl, ap, ◌∙◌}
use Rattle.std.specs.Prelude.{slice_get}
use Rattle.apply_model.specs.declared.script.wait.Wait.{Wait}
use Rattle.apply_events.specs.declared.event.Event.{Event}
use Rattle.apply_events.specs.Step.{Step, Work, steps_of}
use Rattle.apply_events.specs.StepEvents.{goes_on}
use Rattle.laws_run.specs.WaitingSteps.{OnlyWarns, goes_on_if_begun, has_events, is_done_along}

and_one : (b : Bool) → (b && true) ≡ b
and_one true = refl
and_one false = refl

goes : (step : Step) → OnlyWarns step → goes_on step ≡ true
goes step only = rw (only.begins, only.has_not_failed, only.is_not_halted) refl

goes_if_begun : (work : Work) (name : Wait) (step : Step) → slice_get (steps_of work name.change) name.step ≡ Some step → OnlyWarns step → goes_on_if_begun work name ≡ true
goes_if_begun work name step is only = rw is (goes step only)

pub is_done : (work : Work) (events : List Event) (name : Wait) (step : Step) → slice_get (steps_of work name.change) name.step ≡ Some step → OnlyWarns step
    → is_done_along work events name ≡ has_events events name
is_done work events name step is only = ap (λ b. has_events events name && b) (goes_if_begun work name step is only) ∙ and_one (has_events events name)
