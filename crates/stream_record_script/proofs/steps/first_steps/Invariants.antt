use Rattle.std.proofs.Common.{◌≡◌, ◌++◌, drop}
use Rattle.stream_record_script.specs.Steps.{first_steps, other_steps}
use Rattle.stream_record_script.proofs.steps.first_steps.Given as goal

abbrev pub invariant-loop-kind : goal.invariant-loop-kind
invariant-loop-kind l = record {
  first : l.first.items ++ first_steps (drop l._kind-index l.kinds) l.steps.items ≡ first_steps l.kinds l.initial.steps.items;
  others : other_steps (drop l._kind-index l.kinds) l.steps.items ≡ other_steps l.kinds l.initial.steps.items;
}
