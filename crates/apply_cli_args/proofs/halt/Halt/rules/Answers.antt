use Rattle.std.proofs.Common.{◌≡◌, IfOk, List, sym, ap, ◌∙◌, subst}
use Rattle.apply_hooks.specs.declared.rule.Rule.{Rule}
use Rattle.apply_cli_args.specs.Halt.{rules_of_halt}
use Rattle.apply_cli_args.specs.declared.halt.Halt.TheVariants.{Inside}
use Rattle.apply_cli_args.proofs.halt.Halt.rules.Goals as goal

pub returns-in-Inside : goal.returns-in-Inside
returns-in-Inside c =
    subst (λ (rules : List Rule). IfOk c.halting-in-Inside.result (λ made. made ≡ rules))
    (ap (λ prefix. rules_of_halt (Inside prefix)) c.as_str.ensures ∙ ap rules_of_halt (sym c.in-Inside.is)) c.halting-in-Inside.ensures
