use Rattle.std.proofs.Common.{◌≡◌, take}
use Rattle.std.specs.Prelude.{count_by}
use Rattle.stream_watch.specs.Steps.{changes, step_view}
use Rattle.stream_watch.proofs.steps.OpenSteps.changes.Given as goal

abbrev pub invariant-loop-step : goal.invariant-loop-step
invariant-loop-step l = l.count ≡ count_by (λ step. changes (step_view step)) (take l.step-index l.self.list.items)
