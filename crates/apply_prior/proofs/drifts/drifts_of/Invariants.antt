use Rattle.std.proofs.Common.{◌≡◌, filter_map, take}
use Rattle.serde_json.specs.View.{view}
use Rattle.apply_prior.specs.Drifts.{drift_of}
use Rattle.apply_prior.proofs.drifts.drifts_of.Given as goal

abbrev pub invariant-loop-element : goal.invariant-loop-element
invariant-loop-element l = l.drifts.items ≡ filter_map (λ v. drift_of (view v)) (take l.element-index l.elements)
