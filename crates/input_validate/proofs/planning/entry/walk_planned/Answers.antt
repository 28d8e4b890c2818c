use Rattle.std.proofs.Common.{◌≡◌, ◌∷◌, [], true, is_some, rules, subst}
use Rattle.std.specs.Prelude.{IfOk}
use Rattle.serde_json.specs.Find.{as_object}
use Rattle.serde_json.specs.View.{view}
use Rattle.input_validate.specs.declared.rules.violation.Violation.{Violation}
use Rattle.input_validate.specs.Findings.{reported}
use Rattle.input_validate.specs.Planning.{in_planned}
use Rattle.input_validate.specs.Rules.{violation_findings}
use Rattle.input_validate.proofs.planning.entry.walk_planned.Goals as goal

pub returns : goal.returns
unfolding in_planned
returns c =
    let d = view c.args.entry.now in
    let there : is_some (as_object d) ≡ true = search (rules, c.suits, c.if-not-suits) in
    rw there
    (c.joined.ensures _ _
    (c.joined-all-2.ensures _ _
    (c.joined-all.ensures _ _ c.walk_members-all.ensures c.walk_object_of.ensures)
    (subst (λ (it : Violation). IfOk c.walk_violations.result (λ f. f ≡ reported (violation_findings (it ∷ [])))) c.again_violation.ensures c.walk_violations.ensures))
    c.walk_ignored.ensures)
