use Rattle.std.proofs.Common.{◌≡◌, ◌++◌, drop}
use Rattle.term_text.specs.Fitting.{few_marks}
use Rattle.term_text.proofs.fitting.with_few_marks.Given as goal

abbrev pub invariant-loop-character : goal.invariant-loop-character
invariant-loop-character l = l.few.items ++ few_marks l.marks (drop l.character-index l.characters) ≡ few_marks 0 l.characters
