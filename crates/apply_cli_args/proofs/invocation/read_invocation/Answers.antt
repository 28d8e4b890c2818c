use Rattle.std.proofs.Common.{map, string_bytes}
use Rattle.apply_cli_args.specs.CommandLine.{AreChoices, IsNoInvocation, command_line}
use Rattle.apply_cli_args.proofs.Parsed.{are_refused, are_wrong, command_line_is_simple, have_invoked, invocation_is_of_rows, is_parse}
use Rattle.apply_cli_args.proofs.invocation.read_invocation.Goals as goal

pub returns-in-Ok-clause-stated : goal.returns-in-Ok-clause-stated
returns-in-Ok-clause-stated g c =
    let is = is_parse AreChoices command_line c.in_ok-command.command (map string_bytes c.args.words.now) c.try_get_matches_from.result command_line_is_simple c.in_ok-command.ensures c.try_get_matches_from.ensures.kinds in
    have_invoked c.in-Ok.matches c.invocation_of.result is c.in-Ok.is c.in-Ok.ensures.matches c.invocation_of.ensures.stated

pub returns-in-Ok-clause-refused : goal.returns-in-Ok-clause-refused
returns-in-Ok-clause-refused g c =
    let is = is_parse AreChoices command_line c.in_ok-command.command (map string_bytes c.args.words.now) c.try_get_matches_from.result command_line_is_simple c.in_ok-command.ensures c.try_get_matches_from.ensures.kinds in
    are_wrong (λ rows why. IsNoInvocation rows why) c.in-Ok.matches c.invocation_of.result is invocation_is_of_rows c.in-Ok.is c.in-Ok.ensures.matches c.invocation_of.ensures.refused

pub returns-in_ok-usage_of-in-Err-clause-refused : goal.returns-in_ok-usage_of-in-Err-clause-refused
returns-in_ok-usage_of-in-Err-clause-refused g c =
    let is = is_parse AreChoices command_line c.in_ok-command.command (map string_bytes c.args.words.now) c.try_get_matches_from.result command_line_is_simple c.in_ok-command.ensures c.try_get_matches_from.ensures.kinds in
    are_refused (λ rows why. IsNoInvocation rows why) c.in-Err.error c.in_ok-usage_of-in-Err.field-0 is c.in-Err.is c.in_ok-usage_of-in-Err.ensures
