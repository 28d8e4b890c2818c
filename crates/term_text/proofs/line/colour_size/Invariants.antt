use Rattle.std.proofs.Common.{◌≡◌, ◌+◌, drop}
use Rattle.term_text.specs.LineTexts.{size_through}
use Rattle.term_text.proofs.line.colour_size.Given as goal

abbrev pub invariant-loop-place : goal.invariant-loop-place
invariant-loop-place l = size_through (2 + l.place) (drop l.place l.behind) ≡ size_through 2 l.behind
