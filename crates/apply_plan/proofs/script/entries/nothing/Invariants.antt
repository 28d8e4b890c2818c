use Rattle.std.proofs.Common.{◌≡◌, []}
use Rattle.apply_plan.specs.Script.OutcomeMap.{by_number}
use Rattle.apply_plan.proofs.script.entries.nothing.Given as goal

abbrev pub invariant-loop : goal.invariant-loop
invariant-loop l = l.outcomes.items ≡ by_number l.counter []
