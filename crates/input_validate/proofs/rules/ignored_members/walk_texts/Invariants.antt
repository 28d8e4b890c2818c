use Rattle.std.proofs.Common.{◌≡◌, map, take}
use Rattle.input_validate.specs.Findings.{reported}
use Rattle.input_validate.specs.Rules.{ignored_from}
use Rattle.input_validate.proofs.rules.ignored_members.walk_texts.Given as goal

abbrev pub invariant-loop-number : goal.invariant-loop-number
invariant-loop-number l = l.all ≡ reported (ignored_from l.names 0 (map (λ text. text.now) (take l.number l.texts)))
