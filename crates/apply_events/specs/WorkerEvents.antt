-- The events of a worker.
use Rattle.std.specs.Prelude.{ℕ, List}
use Rattle.apply_events.specs.declared.event.Event.{Event}
use Rattle.apply_events.specs.ChangeEvents.{change_events, in_turn, span_of}
use Rattle.apply_events.specs.Step.{Work}

-- The events of a worker that applies these changes. The first change begins at 0, and each next
-- one where the changes before it end.
abbrev pub worker_events : Work → (worker : ℕ) → List ℕ → List Event
worker_events work worker changes = in_turn (change_events work worker) (span_of work) changes 0
