-- `clap` says how it parses the arguments of simple commands, and `validate` is one.
use Rattle.std.proofs.Common.{◌≡◌, true, refl}
use Rattle.clap.specs.Faults.{is_simple_and_free}
use Rattle.clap.specs.Simple.{is_simple}
use Rattle.clap.proofs.OnLiterals.{clap_on_literals}
use Rattle.input_validate_cli.specs.CommandLine.{Choices, command_line}

pub line_is_simple : (choices : Choices) → is_simple (command_line choices) ≡ true
unfolding clap_on_literals
line_is_simple choices = refl

pub line_is_free : (choices : Choices) → is_simple_and_free (command_line choices) ≡ true
unfolding clap_on_literals
line_is_free choices = refl
