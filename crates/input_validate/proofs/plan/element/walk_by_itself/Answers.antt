use Rattle.std.proofs.Common.{◌≡◌, List, subst}
use Rattle.std.specs.Prelude.{IfOk}
use Rattle.input_validate.specs.declared.rules.violation.Violation.{Violation}
use Rattle.input_validate.specs.Findings.{reported}
use Rattle.input_validate.specs.Rules.{violation_findings}
use Rattle.input_validate.proofs.plan.element.walk_by_itself.Goals as goal

pub returns : goal.returns
returns c =
    c.joined.ensures _ _ (c.joined-all.ensures _ _ c.faults-all.ensures c.walk_inside.ensures)
    (subst (λ (violations : List Violation). IfOk c.walk_violations.result (λ f. f ≡ reported (violation_findings violations))) c.address_violations.ensures c.walk_violations.ensures)
