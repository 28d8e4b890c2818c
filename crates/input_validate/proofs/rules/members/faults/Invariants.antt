use Rattle.std.proofs.Common.{◌≡◌, take}
use Rattle.serde_json.specs.View.{view}
use Rattle.input_validate.specs.Findings.{reported}
use Rattle.input_validate.specs.Rules.{faults_of}
use Rattle.input_validate.proofs.rules.members.faults.Given as goal

abbrev pub invariant-loop-rule : goal.invariant-loop-rule
invariant-loop-rule l = l.all ≡ reported (faults_of (take l.rule-index l.table) (view l.value))
