use Rattle.std.proofs.Common.{◌≡◌, ◌++◌, drop}
use Rattle.term_text.specs.LineTexts.{uncoloured, uncoloured_after}
use Rattle.term_text.proofs.line.uncoloured.Given as goal

abbrev pub invariant-loop-place : goal.invariant-loop-place
invariant-loop-place l = l.plain.items ++ uncoloured_after l.passed (drop l.place l.bytes) ≡ uncoloured l.bytes
