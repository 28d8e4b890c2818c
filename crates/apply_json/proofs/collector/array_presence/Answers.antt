use Rattle.std.proofs.Common.{sym, ap, ◌∙◌}
use Rattle.apply_json.specs.ShallowView.{shallow_view}
use Rattle.apply_json.proofs.VerbatimValues.{absent_is, other_is}
use Rattle.apply_json.proofs.collector.array_presence.Goals as goal

pub returns-in-Absent : goal.returns-in-Absent
returns-in-Absent c = λ d is e. absent_is d is (ap shallow_view (sym c.in-Absent.is) ∙ e)

pub returns-in_default : goal.returns-in_default
returns-in_default c = λ d is e. other_is d c.args.shallow is c.in_default.not-Absent e
