-- `clap` states what it makes of words for simple commands; ours is one.
use Rattle.std.proofs.Common.{◌≡◌, ◌∙◌, ap, true, refl}
use Rattle.clap.specs.Faults.{is_simple_and_free}
use Rattle.clap.specs.Simple.{App, is_simple}
use Rattle.clap.proofs.OnLiterals.{clap_on_literals}
use Rattle.stream_check.specs.CommandLine.{command_line}

line_is_simple : is_simple command_line ≡ true
unfolding clap_on_literals
line_is_simple = refl

line_is_free : is_simple_and_free command_line ≡ true
unfolding clap_on_literals
line_is_free = refl

pub is_simple_by : (app : App) → app ≡ command_line → is_simple app ≡ true
is_simple_by app is = ap is_simple is ∙ line_is_simple

pub is_free_by : (app : App) → app ≡ command_line → is_simple_and_free app ≡ true
is_free_by app is = ap is_simple_and_free is ∙ line_is_free
