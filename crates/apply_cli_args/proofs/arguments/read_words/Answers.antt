use Rattle.std.proofs.Common.{None, map, string_bytes}
use Rattle.apply_cli_args.specs.CommandLine.{AreNoSettings, IsOneOf, kind_words, settings_line}
use Rattle.apply_cli_args.proofs.Parsed.{are_refused, are_wrong, have_stated, is_parse, settings_are_of_rows, settings_line_is_simple}
use Rattle.apply_cli_args.proofs.arguments.read_words.Goals as goal

pub returns-in-Ok-clause-stated : goal.returns-in-Ok-clause-stated
returns-in-Ok-clause-stated c =
    let is = is_parse (IsOneOf kind_words) settings_line c.in_ok-command.command (map string_bytes c.args.words.now) c.try_get_matches_from.result settings_line_is_simple c.in_ok-command.ensures c.try_get_matches_from.ensures.kinds in
    have_stated c.in-Ok.matches c.settings_of.result is c.in-Ok.is c.in-Ok.ensures.matches c.settings_of.ensures.stated

pub returns-in-Ok-clause-refused : goal.returns-in-Ok-clause-refused
returns-in-Ok-clause-refused c =
    let is = is_parse (IsOneOf kind_words) settings_line c.in_ok-command.command (map string_bytes c.args.words.now) c.try_get_matches_from.result settings_line_is_simple c.in_ok-command.ensures c.try_get_matches_from.ensures.kinds in
    are_wrong (λ rows why. AreNoSettings None rows why) c.in-Ok.matches c.settings_of.result is settings_are_of_rows c.in-Ok.is c.in-Ok.ensures.matches c.settings_of.ensures.refused

pub returns-in_ok-usage_of-in-Err-clause-refused : goal.returns-in_ok-usage_of-in-Err-clause-refused
returns-in_ok-usage_of-in-Err-clause-refused c =
    let is = is_parse (IsOneOf kind_words) settings_line c.in_ok-command.command (map string_bytes c.args.words.now) c.try_get_matches_from.result settings_line_is_simple c.in_ok-command.ensures c.try_get_matches_from.ensures.kinds in
    are_refused (λ rows why. AreNoSettings None rows why) c.in-Err.error c.in_ok-usage_of-in-Err.field-0 is c.in-Err.is c.in_ok-usage_of-in-Err.ensures
