use Rattle.stream_record_outcomes.specs.declared.step_warning.StepWarning.{StepWarning}
use Rattle.stream_record_warnings.specs.StepWarnings.{reason_words, step_warning}
use Rattle.stream_record_warnings.proofs.TextLemmas.{piece_more, pieces_all}
use Rattle.stream_record_warnings.proofs.steps.push_reasons.Goals as goal

pub loop-warning-preserved : goal.loop-warning-preserved
loop-warning-preserved c =
    piece_more (λ (warning : StepWarning). step_warning c.args.line c.args.step.now (reason_words warning)) c.args.warnings.now c.loop-warning.warning-index
    c.warning-item.result c.args.text.now c.loop-warning.text c.push_reason.new.text c.loop-warning-test.true c.warning-item.is c.loop-warning.invariant c.push_reason.ensures

pub returns : goal.returns
returns c =
    pieces_all (λ (warning : StepWarning). step_warning c.args.line c.args.step.now (reason_words warning)) c.args.warnings.now c.loop-warning.warning-index
    c.args.text.now c.loop-warning.text c.loop-warning-test.false c.loop-warning.invariant
