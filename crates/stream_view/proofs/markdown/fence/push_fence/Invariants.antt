use Rattle.std.proofs.Common.{replicate}
use Rattle.term_words.specs.MessageTexts.{AppendsText}
use Rattle.stream_view.proofs.markdown.fence.push_fence.Given as goal

abbrev pub invariant-backticks : goal.invariant-backticks
invariant-backticks l = AppendsText l.initial.text l.text (replicate l._backtick 96)
