-- The options of a run, from the settings.
use Rattle.apply_run.specs.declared.options.Options.{Options}
use Rattle.apply_cli_args.specs.declared.settings.Settings.{Settings}

-- the options with which a run applies the plan
abbrev pub options_of : Settings → Options
options_of settings = record {
  workers = settings.workers;
  capacity = settings.queue;
  start = settings.at;
  operation = settings.operation;
}
