use Rattle.std.proofs.Common.{◌≡◌, [], Bool, is_some, subst, string_bytes}
use Rattle.std.specs.Prelude.{IfOk}
use Rattle.input_validate_cli.specs.Validated.{accepted}
use Rattle.input_validate_cli.proofs.LineCounts.{as_many_lines}
use Rattle.input_validate_cli.proofs.command.report_text.report_text.Goals as goal

pub returns-clause-lines : goal.returns-clause-lines
returns-clause-lines c =
    as_many_lines c.args.findings.now.plan c.args.findings.now.script (is_some c.args.script) (string_bytes c.in_ok-text.text) c.or_accepted.result
    c.in_ok-text.ensures.lines c.in_ok-text.ensures.none
    (subst (λ (given : Bool). string_bytes c.in_ok-text.text ≡ [] → IfOk c.or_accepted.result (λ all. string_bytes all ≡ accepted given)) c.is_some.ensures c.or_accepted.ensures.accepted)
    c.or_accepted.ensures.same
