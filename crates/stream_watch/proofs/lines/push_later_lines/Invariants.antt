use Rattle.std.proofs.Common.{take}
use Rattle.stream_watch.specs.Printed.{later_lines}
use Rattle.term_words.specs.MessageTexts.{AppendsText}
use Rattle.stream_watch.proofs.lines.push_later_lines.Given as goal

abbrev pub invariant-loop-piece : goal.invariant-loop-piece
invariant-loop-piece l = AppendsText l.fn.out l.out (later_lines l.has_colour l.mark l.rendition (take l.piece-index l.pieces))
