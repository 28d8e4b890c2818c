use Rattle.std.proofs.Common.{ap, sym}
use Rattle.std.specs.Prelude.{codes}
use Rattle.stream_record_warnings.specs.StreamWarnings.{lines_warning}
use Rattle.term_words.proofs.Appended.{text_as, text_then}
use Rattle.stream_record_warnings.proofs.stream.push_tally.Goals as goal

pub returns-in-Some : goal.returns-in-Some
returns-in-Some c =
    let begin = c.begin_line.new.text in
    let words = text_then begin c.text.new.self c.push_others.new.text _ _ c.text.ensures c.push_others.ensures in
    text_as c.args.text.now c.end.new.text _ _ (ap (lines_warning c.args.one.now c.args.more.now c.args.tally.count) (sym c.in-Some.is))
    (text_then c.args.text.now begin c.end.new.text _ _ c.begin_line.ensures
    (text_then begin c.push_others.new.text c.end.new.text _ (codes "\n") words c.end.ensures))
