use Rattle.std.proofs.Common.{◌≡◌, take}
use Rattle.input_validate.specs.Findings.{reported}
use Rattle.input_validate.specs.Whole.{stuck_entries}
use Rattle.input_validate.proofs.input_findings.stuck_entries.Given as goal

abbrev pub invariant-loop-number : goal.invariant-loop-number
invariant-loop-number l = l.all ≡ reported (stuck_entries (take l.number-index l.numbers))
