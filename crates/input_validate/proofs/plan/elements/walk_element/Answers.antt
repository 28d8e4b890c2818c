use Rattle.std.proofs.Common.{◌≡◌, true, ap, option_map, ◌∙◌, rules, is_some}
use Rattle.serde_json.specs.Find.{as_object}
use Rattle.serde_json.specs.View.{view}
use Rattle.input_validate.specs.Findings.{reported}
use Rattle.input_validate.specs.ObjectNames.{name_view}
use Rattle.input_validate.specs.PlanFindings.{first_named, name_of, named_again}
use Rattle.input_validate.proofs.Named.{in_object, name_is}
use Rattle.input_validate.proofs.plan.elements.walk_element.Goals as goal

pub returns-clause-findings : goal.returns-clause-findings
returns-clause-findings c names first =
    let there : is_some (as_object (view c.args.element.now)) ≡ true = search rules in
    let named : option_map name_view c.name_unless-name.result ≡ name_of (view c.args.element.now) =
    c.name_unless-name.ensures ∙ name_is (view c.args.element.now) c.refuses.result c.in_ok-itself.itself there c.refuses.ensures c.in_ok-itself.ensures in
    let again : c.in_ok-again.again ≡ reported (named_again (first_named names (name_of (view c.args.element.now)))) =
    c.in_ok-again.ensures ∙ ap (λ n. reported (named_again n)) (c.get.ensures names first ∙ ap (first_named names) named) in
    c.in_ok-all.ensures _ _ c.in_ok-itself.ensures again ∙ ap reported (in_object names (view c.args.element.now) there)

pub returns-clause-name : goal.returns-clause-name
returns-clause-name c =
    let there : is_some (as_object (view c.args.element.now)) ≡ true = search rules in
    c.name_unless-name.ensures ∙ name_is (view c.args.element.now) c.refuses.result c.in_ok-itself.itself there c.refuses.ensures c.in_ok-itself.ensures
