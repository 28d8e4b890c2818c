use Rattle.std.proofs.Common.{◌≡◌, take}
use Rattle.input_validate.specs.Findings.{reported}
use Rattle.input_validate.specs.Rules.{violation_findings}
use Rattle.input_validate.proofs.rules.members.walk_violations.Given as goal

abbrev pub invariant-loop-violation : goal.invariant-loop-violation
invariant-loop-violation l = l.all ≡ reported (violation_findings (take l.violation-index l.violations))
