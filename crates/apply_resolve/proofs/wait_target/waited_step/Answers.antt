use Rattle.std.proofs.Common.{ap, arith, ◌∙◌}
use Rattle.std.specs.Prelude.{unwrap_or}
use Rattle.apply_resolve.proofs.NamedSteps.{has_none, has_one}
use Rattle.apply_resolve.proofs.wait_target.waited_step.Goals as goal

pub returns-then-number-from : goal.returns-then-number-from
returns-then-number-from c =
    has_one c.args.step c.args.count c.unwrap_or-number.result
    (c.unwrap_or-number.ensures ∙ ap (unwrap_or c.args.step) (c.from-last.ensures ∙ c.saturating_sub.ensures))
    (omega (arith, c.from.ensures, c.if-number-from.true))

pub returns-else-number-from : goal.returns-else-number-from
returns-else-number-from c =
    has_none c.args.step c.args.count c.unwrap_or-number.result
    (c.unwrap_or-number.ensures ∙ ap (unwrap_or c.args.step) (c.from-last.ensures ∙ c.saturating_sub.ensures))
    (omega (arith, c.from.ensures, c.if-number-from.false))
