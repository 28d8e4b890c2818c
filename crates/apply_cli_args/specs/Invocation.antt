-- What the whole command line states: the settings, how many changes run at once, the form of the
-- stream, the command, and whether its plan is made with a refresh.
use Rattle.std.specs.Prelude.{◌≡◌, ℕ, List, [], IfSome, Some}
use Rattle.clap.specs.Faults.{fault_of}
use Rattle.clap.specs.Simple.{matches_of}
use Rattle.clap.specs.Walk.{Row, Text}
use Rattle.apply_events.specs.Lanes.{AreLanes}
use Rattle.apply_cli_args.specs.declared.invocation.Invocation.{Invocation}
use Rattle.apply_cli_args.specs.CommandLine.{AreChoices, AreStatedSettings, Choices, IsParallelism, command_line}
use Rattle.apply_cli_args.specs.Given.{AreTogether, stated_command, stated_form, stated_refresh}
use Rattle.apply_cli_args.specs.Settings.{AreInRange}

-- a run accepts them
pub record IsInRange (invocation : Invocation) : Type 0 where
  pub settings : AreInRange invocation.settings
  pub parallelism : IfSome invocation.parallelism AreLanes

-- each part is what its options state, with what the clock gave as the present, and no option
-- excludes another that is given
pub record IsInvoked (rows : List Row) (invocation : Invocation) : Type 0 where
  pub together : AreTogether rows
  pub present : ℕ
  pub settings : AreStatedSettings (Some present) (stated_command rows) rows invocation.settings
  pub parallelism : IsParallelism rows invocation.parallelism
  pub form : invocation.form ≡ stated_form (stated_command rows) rows
  pub command : invocation.command ≡ stated_command rows
  pub refresh : invocation.refresh ≡ stated_refresh rows

-- the words were parsed, and the invocation is what they state
pub record HaveInvoked (words : List Text) (invocation : Invocation) : Type 0 where
  pub choices : Choices
  pub are_choices : AreChoices choices
  pub parsed : fault_of (command_line choices) words ≡ []
  pub invoked : IsInvoked (matches_of (command_line choices) words) invocation

-- the invocation is what the words state, and a run accepts it
pub record IsOfWords (words : List Text) (invocation : Invocation) : Type 0 where
  pub stated : HaveInvoked words invocation
  pub in_range : IsInRange invocation
