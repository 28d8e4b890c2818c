use Rattle.std.proofs.Common.{take}
use Rattle.stream_view.specs.Growth.{HasParts}
use Rattle.stream_view.specs.Markup.{text_parts}
use Rattle.stream_view.proofs.svg.markup.Markup.text.Given as goal

abbrev pub invariant-loop-character : goal.invariant-loop-character
invariant-loop-character l = HasParts l.initial.self l.self (text_parts (take l.character-index l.character-items))
