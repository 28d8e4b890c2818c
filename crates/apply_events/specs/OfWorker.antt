-- The events of one worker in a list.
use Rattle.std.specs.Prelude.{ℕ, ◌==◌, List, filter}
use Rattle.apply_events.specs.declared.event.Event.{Event}

-- The events that name the worker, in order.
abbrev pub of_worker : ℕ → List Event → List Event
of_worker worker events = filter (λ event. event.worker == worker) events
