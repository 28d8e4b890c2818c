use Rattle.std.proofs.Common.{◌≡◌, List, true, ap, is_some, subst, ◌∙◌, rules}
use Rattle.std.specs.Prelude.{IfOk}
use Rattle.serde_json.specs.Find.{as_object}
use Rattle.serde_json.specs.View.{view}
use Rattle.input_validate.specs.declared.rules.rule.MemberRule.{MemberRule}
use Rattle.input_validate.specs.declared.rules.violation.Violation.{Violation}
use Rattle.input_validate.specs.Findings.{reported}
use Rattle.input_validate.specs.ScriptFindings.{in_step, is_skipped, step_table}
use Rattle.input_validate.specs.Rules.{faults_of, violation_findings}
use Rattle.input_validate.proofs.script.step.StepWalk.walk.Goals as goal

pub returns : goal.returns
unfolding in_step
returns c =
    let d = view c.args.value.now in
    let there : is_some (as_object d) ≡ true = search (rules, c.suits, c.if-not-suits) in
    let table : c.table.result.now ≡ step_table (is_skipped d) = c.table.ensures ∙ ap step_table c.is_skipped.ensures in
    let first : IfOk c.faults-all.result (λ f. f ≡ reported (faults_of (step_table (is_skipped d)) d)) =
    subst (λ (rule : List MemberRule). IfOk c.faults-all.result (λ f. f ≡ reported (faults_of rule d))) table c.faults-all.ensures in
    rw there
    (c.joined.ensures _ _
    (c.joined-all-9.ensures _ _
    (c.joined-all-8.ensures _ _
    (c.joined-all-7.ensures _ _
    (c.joined-all-6.ensures _ _
    (c.joined-all-5.ensures _ _
    (c.joined-all-4.ensures _ _
    (c.joined-all-3.ensures _ _
    (c.joined-all-2.ensures _ _
    (c.joined-all.ensures _ _ first c.walk_inside.ensures)
    c.walk_inside-2.ensures)
    c.walk_list.ensures)
    (subst (λ (violations : List Violation). IfOk c.walk_violations.result (λ f. f ≡ reported (violation_findings violations))) c.violations.ensures c.walk_violations.ensures))
    (subst (λ (violations : List Violation). IfOk c.walk_violations-2.result (λ f. f ≡ reported (violation_findings violations))) c.kind_violations.ensures c.walk_violations-2.ensures))
    c.faults.ensures)
    (subst (λ (violations : List Violation). IfOk c.walk_violations-3.result (λ f. f ≡ reported (violation_findings violations))) c.skipped_violations.ensures c.walk_violations-3.ensures))
    c.walk_items_at.ensures)
    c.walk_list-2.ensures)
    c.walk_ignored.ensures)
