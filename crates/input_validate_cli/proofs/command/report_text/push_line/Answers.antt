-- A shown line and its line feed.
use Rattle.std.proofs.Common.{lit<, string_bytes}
use Rattle.term_text.specs.Shown.{shown_text}
use Rattle.input_validate_cli.proofs.LineCounts.{one_more_on_ok}
use Rattle.input_validate_cli.proofs.command.report_text.push_line.Goals as goal

pub returns : goal.returns
returns c =
    one_more_on_ok c.push.result (string_bytes c.args.text.now) (shown_text c.as_bytes.result.now) (string_bytes c.push_controls_escaped.new.text) _ (string_bytes c.push.new.self)
    (c.nothing_hidden_is_shown.ensures.whole c.as_bytes.result.now) c.in_ok-push_controls_escaped.ensures.ok (c.push.ensures.ascii (lit< tt)) c.push.ensures.bytes
