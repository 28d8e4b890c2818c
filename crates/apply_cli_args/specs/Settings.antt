-- Which settings a run accepts.
use Rattle.std.specs.Prelude.{◌≤◌, ◌<◌, length}
use Rattle.apply_hooks.specs.Hooks.{max_hooks}
use Rattle.apply_text.specs.Start.{end_of_starts}
use Rattle.apply_cli_args.specs.declared.settings.Settings.{Settings}

-- a run accepts them: 1 to 8 workers, a queue of 1 to 1,024, a start from 1970 to 8999, and no more
-- halts than hooks
pub record AreInRange (settings : Settings) : Type 0 where
  pub some_worker : 1 ≤ settings.workers
  pub few_workers : settings.workers ≤ 8
  pub some_room : 1 ≤ settings.queue
  pub little_room : settings.queue ≤ 1024
  pub in_time : settings.at < end_of_starts
  pub few_halts : length settings.halts.items ≤ max_hooks
