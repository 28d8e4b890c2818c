use Rattle.std.proofs.Common.{sym, ◌∙◌}
use Rattle.serde_json.specs.View.{view}
use Rattle.apply_prior.specs.Views.{element_view}
use Rattle.apply_prior.proofs.Drifted.{new_drift, no_drift, still_drift}
use Rattle.apply_prior.proofs.drifts.drift_of.Goals as goal

pub returns-in_default : goal.returns-in_default
returns-in_default c = no_drift (view c.args.element.now) c.in_default.ensures

pub returns-then-is_still : goal.returns-then-is_still
returns-then-is_still c =
    still_drift (view c.args.element.now) (element_view c.in-Some.object) c.in_ok-details.details c.in-Some.ensures c.in_ok-details.ensures (sym c.is_still.ensures ∙ c.if-is_still.true)

pub returns : goal.returns
returns c =
    new_drift (view c.args.element.now) (element_view c.in-Some.object) c.in_ok-change.change c.in_ok-details.details c.in-Some.ensures c.in_ok-details.ensures (sym c.is_still.ensures ∙ c.if-is_still.false) c.in_ok-change.ensures
