use Rattle.std.proofs.Common.{◌≡◌, ◌++◌, replicate, string_bytes}
use Rattle.term_text.proofs.line.push_blanks.Given as goal

abbrev pub invariant-blanks : goal.invariant-blanks
invariant-blanks l = string_bytes l.text ≡ string_bytes l.fn.text ++ replicate l._blank 32
