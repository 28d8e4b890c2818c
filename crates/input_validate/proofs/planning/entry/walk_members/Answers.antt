use Rattle.std.proofs.Common.{◌≡◌, ◌∷◌, [], List, subst}
use Rattle.std.specs.Prelude.{IfOk}
use Rattle.input_validate.specs.declared.rules.violation.Violation.{Violation}
use Rattle.input_validate.specs.Findings.{reported}
use Rattle.input_validate.specs.Planning.{in_planned_members}
use Rattle.input_validate.specs.Rules.{violation_findings}
use Rattle.input_validate.proofs.planning.entry.walk_members.Goals as goal

pub returns : goal.returns
unfolding in_planned_members
returns c =
    c.joined.ensures _ _
    (c.joined-all-7.ensures _ _
    (c.joined-all-6.ensures _ _
    (c.joined-all-5.ensures _ _
    (c.joined-all-4.ensures _ _
    (c.joined-all-3.ensures _ _
    (c.joined-all-2.ensures _ _
    (c.joined-all.ensures _ _ c.faults-all.ensures
    (subst (λ (it : Violation). IfOk c.walk_violations.result (λ f. f ≡ reported (violation_findings (it ∷ [])))) c.skipped_seconds.ensures c.walk_violations.ensures))
    c.fault.ensures)
    (subst (λ (it : Violation). IfOk c.walk_violations-2.result (λ f. f ≡ reported (violation_findings (it ∷ [])))) c.skipped_id.ensures c.walk_violations-2.ensures))
    c.walk_inside.ensures)
    (subst (λ (all : List Violation). IfOk c.walk_violations-3.result (λ f. f ≡ reported (violation_findings all))) c.failed_violations.ensures c.walk_violations-3.ensures))
    c.fault-2.ensures)
    (subst (λ (it : Violation). IfOk c.walk_violations-4.result (λ f. f ≡ reported (violation_findings (it ∷ [])))) c.skipped_gone.ensures c.walk_violations-4.ensures))
    c.fault-3.ensures
