use Rattle.std.proofs.Common.{◌≡◌, ◌∷◌, [], Bool, Option, true, ap, is_some, subst, sym, ◌∙◌, rules}
use Rattle.std.specs.Prelude.{IfOk}
use Rattle.std.specs.Option.{option_copied}
use Rattle.serde_json.specs.Find.{as_object}
use Rattle.serde_json.specs.View.{view}
use Rattle.apply_model.specs.Plan.ResourceChange.{ResourceChange}
use Rattle.input_validate.specs.declared.findings.name.Name.TheVariants as name
use Rattle.input_validate.specs.declared.rules.violation.Violation.{Violation}
use Rattle.input_validate.specs.AgainstPlan.{repeat_violation, beyond_in, change_at, step_count_violation}
use Rattle.input_validate.specs.Findings.{reported}
use Rattle.input_validate.specs.ScriptFindings.{in_entry, in_step}
use Rattle.input_validate.specs.Rules.{in_items, inside, violation_findings}
use Rattle.input_validate.proofs.WaitsLeft.{some_copied}
use Rattle.input_validate.proofs.script.entry.walk_entry.Goals as goal

pub returns : goal.returns
unfolding in_entry
returns c =
    let d = view c.args.entry.now in
    let changes = option_copied c.args.planned in
    let there : is_some (as_object d) ≡ true = search (rules, c.suits, c.if-not-suits) in
    let change : option_copied c.change_at-change.result ≡ change_at changes d = c.change_at-change.ensures in
    let again : IfOk c.walk_violations.result (λ f. f ≡ reported (violation_findings (repeat_violation (change_at changes d) c.args.first ∷ []))) =
    subst (λ (violation : Violation). IfOk c.walk_violations.result (λ f. f ≡ reported (violation_findings (violation ∷ []))))
    (c.repeat_violation.ensures ∙ ap (λ (o : Option ResourceChange). repeat_violation o c.args.first) change) c.walk_violations.ensures in
    let many : IfOk c.walk_violations-2.result (λ f. f ≡ reported (violation_findings (step_count_violation (change_at changes d) d ∷ []))) =
    subst (λ (violation : Violation). IfOk c.walk_violations-2.result (λ f. f ≡ reported (violation_findings (violation ∷ []))))
    (c.step_count_violation.ensures ∙ ap (λ (o : Option ResourceChange). step_count_violation o d) change) c.walk_violations-2.ensures in
    let steps : IfOk c.walk_items_at.result (λ f. f ≡ reported (inside (in_items (in_step changes (change_at changes d))) name.Steps d)) =
    subst (λ (o : Option ResourceChange). IfOk c.walk_items_at.result (λ f. f ≡ reported (inside (in_items (in_step changes o)) name.Steps d))) change c.walk_items_at.ensures in
    let beyond : IfOk c.walk_beyond_in.result (λ f. f ≡ reported (beyond_in (is_some changes) c.args.left d)) =
    subst (λ (b : Bool). IfOk c.walk_beyond_in.result (λ f. f ≡ reported (beyond_in b c.args.left d)))
    (c.is_some.ensures ∙ sym (some_copied c.args.planned)) c.walk_beyond_in.ensures in
    rw there
    (c.joined.ensures _ _
    (c.joined-all-6.ensures _ _
    (c.joined-all-5.ensures _ _
    (c.joined-all-4.ensures _ _
    (c.joined-all-3.ensures _ _
    (c.joined-all-2.ensures _ _
    (c.joined-all.ensures _ _ c.faults-all.ensures c.walk_unknown.ensures)
    again)
    c.fault.ensures)
    many)
    steps)
    beyond)
    c.walk_ignored.ensures)
