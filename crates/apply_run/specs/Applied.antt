-- A plan that was applied by workers.
use Rattle.std.specs.Prelude.{ℕ, List, [], length, slice_index_or}
use Rattle.apply_events.specs.declared.event.Event.{Event}
use Rattle.apply_events.specs.Interleaving.{IsInterleaving, IsInterleavingOfPrefixes}
use Rattle.apply_events.specs.Partition.{IsPartition}
use Rattle.apply_events.specs.Step.{Work}
use Rattle.apply_events.specs.WorkerEvents.{worker_events}

-- the events of a worker for its list of changes
abbrev pub reports_of : Work → List (List ℕ) → (worker : ℕ) → List Event
reports_of work lists worker = worker_events work worker (slice_index_or lists worker [])

-- the changes were dealt to the workers, and the events are an interleaving of the workers' events
pub record IsApplied (work : Work) (workers : ℕ) (lists : List (List ℕ)) (events : List Event) : Type 0 where
  pub dealt_out : IsPartition workers (length work.plan.changes) lists
  pub interleaved : IsInterleaving workers (reports_of work lists) events

-- the changes were dealt to the workers, and the events are an interleaving of prefixes of the
-- workers' events
pub record IsAppliedInPart (work : Work) (workers : ℕ) (lists : List (List ℕ)) (events : List Event) : Type 0 where
  pub dealt_out : IsPartition workers (length work.plan.changes) lists
  pub interleaved : IsInterleavingOfPrefixes workers (reports_of work lists) events
