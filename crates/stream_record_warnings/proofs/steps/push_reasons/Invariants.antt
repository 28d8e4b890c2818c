use Rattle.std.proofs.Common.{take}
use Rattle.term_words.specs.MessageTexts.{AppendsText}
use Rattle.stream_record_warnings.specs.StepWarnings.{reason_warnings}
use Rattle.stream_record_warnings.proofs.steps.push_reasons.Given as goal

abbrev pub invariant-loop-warning : goal.invariant-loop-warning
invariant-loop-warning l = AppendsText l.initial.text l.text (reason_warnings l.line l.step (take l.warning-index l.warnings))
