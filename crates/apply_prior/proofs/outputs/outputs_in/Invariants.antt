use Rattle.std.proofs.Common.{◌≡◌, ◌++◌}
use Rattle.serde_json.specs.View.{members_view}
use Rattle.apply_prior.specs.Outputs.{outputs_in}
use Rattle.apply_prior.proofs.outputs.outputs_in.Given as goal

abbrev pub invariant-loop-name : goal.invariant-loop-name
invariant-loop-name l = l.outputs.items ++ outputs_in (members_view l.name-iterator) ≡ outputs_in (members_view l.changes.entries)
