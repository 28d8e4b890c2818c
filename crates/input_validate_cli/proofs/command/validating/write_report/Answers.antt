-- A text that was written in part.
use Rattle.std.proofs.Common.{◌∙◌, ℕ, List, is_some, string_bytes, subst, take}
use Rattle.std.specs.Io.KnownBytes.{Appends}
use Rattle.std.specs.Option.{option_copied}
use Rattle.input_validate_cli.proofs.Outcomes.{begun, given_copied, is_report}
use Rattle.input_validate_cli.proofs.command.validating.write_report.Goals as goal

pub returns-in_err-write_text-clause-reported : goal.returns-in_err-write_text-clause-reported
returns-in_err-write_text-clause-reported g c =
    let script = option_copied c.args.script in
    let before = g.W.Write.contents c.args.out.now in
    let after = g.W.Write.contents c.write_text.new.out in
    let reports = is_report c.args.form c.args.lanes c.args.plan.now script c.in_ok-findings.findings.plan c.in_ok-findings.findings.script (is_some c.args.script) (string_bytes c.in_ok-text.text)
    (given_copied c.args.script) c.in_ok-findings.ensures.plan c.in_ok-findings.ensures.script c.in_ok-text.ensures.reports c.in_ok-text.ensures.lines in
    begun c.args.form c.args.lanes c.args.plan.now script c.in_err-write_text.field-0.0 c.from_residual-in_err-write_text.result (string_bytes c.in_ok-text.text) before after
    c.from_residual-in_err-write_text.ensures.1 reports
    (subst (λ (bytes : List ℕ). (n : ℕ) × Appends before after (take n bytes)) (c.as_bytes.ensures.value ∙ c.as_str.ensures.value) c.in_err-write_text.ensures.part)
