use Rattle.std.specs.Prelude.{codes}
use Rattle.term_words.proofs.Appended.{text_then}
use Rattle.stream_record_warnings.proofs.steps.push_early_step.Goals as goal

pub returns : goal.returns
returns c =
    let begin = c.begin_line.new.text in
    let words = text_then c.push_step.new.text c.text-2.new.self c.text-3.new.self (codes " began before the ") _ c.text-2.ensures
    (text_then c.text-2.new.self c.push_step-2.new.text c.text-3.new.self _ _ c.push_step-2.ensures c.text-3.ensures) in
    let all = text_then begin c.text.new.self c.text-3.new.self (codes ": the ") _ c.text.ensures
    (text_then c.text.new.self c.push_step.new.text c.text-3.new.self _ _ c.push_step.ensures words) in
    text_then c.args.text.now begin c.end.new.text _ _ c.begin_line.ensures (text_then begin c.text-3.new.self c.end.new.text _ _ all c.end.ensures)
