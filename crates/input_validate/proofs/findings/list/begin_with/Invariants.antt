use Rattle.std.proofs.Common.{◌≡◌, ◌++◌, map, take, drop}
use Rattle.input_validate.specs.Findings.{under}
use Rattle.input_validate.proofs.findings.list.begin_with.Given as goal

abbrev pub invariant-loop-finding : goal.invariant-loop-finding
invariant-loop-finding l = l.stored ≡ map (under l.segment) (take l.finding-index l.initial.stored) ++ drop l.finding-index l.initial.stored
