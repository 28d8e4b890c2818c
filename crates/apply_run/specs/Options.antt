-- Which options a run accepts, and which schedule they state.
use Rattle.std.specs.Prelude.{◌≤◌, ℕ}
use Rattle.apply_run.specs.declared.options.Options.{Options}

-- the bus supports so many senders, and holds so many events
pub record AreWorkers (workers capacity : ℕ) : Type 0 where
  pub some_worker : 1 ≤ workers
  pub few_workers : workers ≤ 8
  pub some_room : 1 ≤ capacity
  pub little_room : capacity ≤ 1024

abbrev pub IsInRange : Options → Type 0
IsInRange options = AreWorkers options.workers options.capacity
