-- How a stream is read and its script made, by the settings.
use Rattle.std.specs.Prelude.{max}
use Rattle.stream_record_cli.specs.declared.command.recording.StreamChoice.{StreamChoice}
use Rattle.stream_record_cli.specs.declared.command.settings.Settings.{Settings}

-- There is at least one lane.
abbrev pub choice_of : Settings → StreamChoice
choice_of settings = record {
  find = settings.find;
  run = settings.run;
  wishes = record { begins = settings.begins; lanes = max settings.lanes 1 };
}
