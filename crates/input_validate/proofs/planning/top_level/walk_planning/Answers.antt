use Rattle.std.proofs.Common.{◌≡◌, ◌∷◌, [], List, ap, subst, ◌∙◌}
use Rattle.std.specs.Option.{option_copied}
use Rattle.serde_json.specs.Data.{Data}
use Rattle.input_validate.specs.declared.rules.violation.Violation.{Violation}
use Rattle.input_validate.specs.Findings.{reported}
use Rattle.input_validate.specs.Planning.{in_planned_after, in_planning}
use Rattle.input_validate.specs.Rules.{items_after, violation_findings}
use Rattle.input_validate.proofs.planning.top_level.walk_planning.Goals as goal

pub returns : goal.returns
unfolding in_planning
returns c =
    c.in_ok-all-3.ensures _ _
    (c.in_ok-all-2.ensures _ _ c.in_ok-all.ensures
    (c.in_ok-walk_violations.ensures ∙ ap (λ (violation : Violation). reported (violation_findings (violation ∷ []))) c.planning_violation.ensures))
    (c.in_ok-under.ensures _ (c.in_ok-entries.ensures
    ∙ ap (λ (ds : List Data). reported (items_after (in_planned_after (option_copied c.args.known)) [] ds)) c.items_at.ensures))
