use Rattle.std.proofs.Common.{◌≡◌, ◌≤◌, Option, Some, ap, subst, sym, ◌∙◌, arith}
use Rattle.std.specs.Prelude.{IfSome}
use Rattle.std.specs.Option.{option_copied}
use Rattle.apply_plan.specs.declared.Outcome.{Outcome}
use Rattle.apply_plan.specs.declared.StepKind.{StepKind}
use Rattle.apply_plan.specs.declared.StepKind.TheVariants.{Create}
use Rattle.apply_plan.specs.Script.Limits.{max_seconds}
use Rattle.apply_plan.specs.Script.Outcome.{took}
use Rattle.apply_plan.specs.Script.OutcomeMap.{stated_outcome}
use Rattle.apply_plan_tests.proofs.tests.provisioning.seconds_taken.Goals as goal

-- a step of a script takes a day at most
pub took-requires : goal.took-requires
took-requires g c =
    let outcome = c.expect-outcome.result.now in
    let given : stated_outcome c.args.script.now 0 0 ≡ Some outcome = sym c.outcome.ensures.given ∙ ap option_copied c.expect-outcome.ensures in
    let short = subst (λ (o : Option Outcome). IfSome o (λ outcome. (kind : StepKind) → took kind outcome ≤ max_seconds)) given c.outcome.ensures.in_time in
    let within : took Create outcome ≤ max_seconds = short Create in
    omega (arith, within)
