use Rattle.std.proofs.Common.{◌≡◌, List, true, is_some, rules, subst}
use Rattle.std.specs.Prelude.{IfOk}
use Rattle.serde_json.specs.Find.{as_object}
use Rattle.serde_json.specs.View.{view}
use Rattle.input_validate.specs.declared.rules.violation.Violation.{Violation}
use Rattle.input_validate.specs.Findings.{reported}
use Rattle.input_validate.specs.ScriptFindings.{in_output}
use Rattle.input_validate.specs.Rules.{violation_findings}
use Rattle.input_validate.proofs.script.output.walk_output.Goals as goal

pub returns : goal.returns
unfolding in_output
returns c =
    let there : is_some (as_object (view c.args.item.now)) ≡ true = search (rules, c.is_object, c.if-not-is_object) in
    rw there
    (c.joined.ensures _ _
    (c.joined-all.ensures _ _ c.faults-all.ensures
    (subst (λ (violations : List Violation). IfOk c.walk_violations.result (λ f. f ≡ reported (violation_findings violations))) c.violations.ensures c.walk_violations.ensures))
    c.walk_ignored.ensures)
