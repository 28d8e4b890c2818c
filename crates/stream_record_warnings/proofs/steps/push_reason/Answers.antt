use Rattle.std.specs.Prelude.{codes}
use Rattle.term_words.proofs.Appended.{text_then}
use Rattle.stream_record_warnings.proofs.steps.push_reason.Goals as goal

pub returns : goal.returns
returns c =
    let begin = c.begin_line.new.text in
    let all = text_then begin c.text.new.self c.push_reason_words.new.text (codes ": the ") _ c.text.ensures
    (text_then c.text.new.self c.push_step.new.text c.push_reason_words.new.text _ _ c.push_step.ensures c.push_reason_words.ensures) in
    text_then c.args.text.now begin c.end.new.text _ _ c.begin_line.ensures (text_then begin c.push_reason_words.new.text c.end.new.text _ _ all c.end.ensures)
