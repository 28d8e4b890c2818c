use Rattle.std.proofs.Common.{◌≡◌, Option, subst}
use Rattle.std.specs.Prelude.{IfOk}
use Rattle.apply_plan_terraform.specs.Outputs.{OutputsOfPlan}
use Rattle.input_validate.specs.Extras.{extras_findings}
use Rattle.input_validate.specs.Findings.{reported}
use Rattle.input_validate.proofs.extras.bytes.terraform_extras.Goals as goal

pub returns : goal.returns
returns c =
    subst (λ (outputs : Option OutputsOfPlan). IfOk c.walk_bytes.result (λ f. f ≡ reported (extras_findings outputs c.args.bytes.now)))
    c.in_ok-outputs.ensures c.walk_bytes.ensures
