use Rattle.std.proofs.Common.{◌≡◌, ◌∷◌, [], ℕ, Option, true, false, ap, is_some, rules, subst, ◌∙◌}
use Rattle.std.specs.Prelude.{IfOk}
use Rattle.std.specs.Option.{option_copied}
use Rattle.serde_json.specs.Find.{as_object, as_str}
use Rattle.serde_json.specs.View.{view}
use Rattle.apply_model.specs.Plan.ResourceChange.{ResourceChange}
use Rattle.input_validate.specs.declared.findings.name.Name.TheVariants as name
use Rattle.input_validate.specs.declared.rules.violation.Violation.{Violation}
use Rattle.input_validate.specs.AgainstPlan.{change_at, missing_step_violation}
use Rattle.input_validate.specs.Findings.{reported}
use Rattle.input_validate.specs.ScriptFindings.{in_wait, whole_at}
use Rattle.input_validate.specs.Rules.{violation_findings}
use Rattle.input_validate.proofs.script.wait.WaitWalk.walk.Goals as goal

pub returns : goal.returns
unfolding in_wait
returns c =
    let d = view c.args.value.now in
    let changes = option_copied c.args.self.now.planned in
    let no_text : is_some (as_str d) ≡ false = search (rules, c.as_str, c.is_some, c.if-is_some) in
    let there : is_some (as_object d) ≡ true = search (rules, c.suits, c.if-not-suits) in
    let violation : c.missing_step_violation.result ≡ missing_step_violation (change_at changes d) (whole_at name.Step d) =
    c.missing_step_violation.ensures ∙ ap (λ (o : Option ResourceChange). missing_step_violation o c.whole_at.result) c.change_at-change.ensures
    ∙ ap (λ (o : Option ℕ). missing_step_violation (change_at changes d) o) c.whole_at.ensures in
    rw (no_text, there)
    (c.joined.ensures _ _
    (c.joined-all-2.ensures _ _
    (c.joined-all.ensures _ _ c.faults-all.ensures c.walk_unknown-2.ensures)
    (subst (λ (it : Violation). IfOk c.walk_violations.result (λ f. f ≡ reported (violation_findings (it ∷ [])))) violation c.walk_violations.ensures))
    c.walk_ignored.ensures)
