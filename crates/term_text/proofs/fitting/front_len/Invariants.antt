use Rattle.std.proofs.Common.{◌≡◌, ◌+◌, take}
use Rattle.term_text.specs.Columns.{columns_of}
use Rattle.term_text.proofs.fitting.front_len.Given as goal

abbrev pub invariant-loop-len : goal.invariant-loop-len
invariant-loop-len l = l.left + columns_of (take l.len l.characters) ≡ l.limit
