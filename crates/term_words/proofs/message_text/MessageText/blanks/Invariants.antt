use Rattle.std.proofs.Common.{replicate}
use Rattle.term_words.specs.MessageTexts.{AppendsText}
use Rattle.term_words.proofs.message_text.MessageText.blanks.Given as goal

abbrev pub invariant-blanks : goal.invariant-blanks
invariant-blanks l = AppendsText l.fn.self l.self (replicate l._blank 32)
