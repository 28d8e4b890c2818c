use Rattle.std.proofs.Common.{take}
use Rattle.term_words.specs.MessageTexts.{AppendsText}
use Rattle.stream_record_warnings.specs.StepWarnings.{early_warnings}
use Rattle.stream_record_warnings.proofs.steps.push_early.Given as goal

abbrev pub invariant-loop-place : goal.invariant-loop-place
invariant-loop-place l = AppendsText l.initial.text l.text (early_warnings l.line l.step l.planned (take l.place-index l.early))
