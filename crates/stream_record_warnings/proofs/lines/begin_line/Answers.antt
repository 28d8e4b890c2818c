use Rattle.term_words.proofs.Appended.{text_then}
use Rattle.stream_record_warnings.proofs.lines.begin_line.Goals as goal

pub returns : goal.returns
returns c = text_then c.args.text.now c.text.new.self c.number.new.self _ _ c.text.ensures c.number.ensures
