use Rattle.std.proofs.Common.{◌≡◌, filter_map, take}
use Rattle.serde_json.specs.Find.{as_str}
use Rattle.serde_json.specs.View.{view}
use Rattle.apply_prior.proofs.objects.texts_of.Given as goal

abbrev pub invariant-loop-value : goal.invariant-loop-value
invariant-loop-value l = l.texts.items ≡ filter_map (λ v. as_str (view v)) (take l.value-index l.values)
