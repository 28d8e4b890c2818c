use Rattle.std.proofs.Common.{take}
use Rattle.term_words.specs.MessageTexts.{AppendsText}
use Rattle.stream_record_warnings.specs.StreamWarnings.{stray_warnings}
use Rattle.stream_record_warnings.proofs.stream.push_strays.Given as goal

abbrev pub invariant-loop-stray : goal.invariant-loop-stray
invariant-loop-stray l = AppendsText l.initial.text l.text (stray_warnings (take l.stray-index l.strays))
