use Rattle.term_words.proofs.Appended.{text_all, text_then}
use Rattle.stream_watch.specs.Printed.{time_text}
use Rattle.stream_watch.proofs.lines.push_time_front.Goals as goal

pub returns : goal.returns
returns c =
    let words = time_text c.args.elapsed in
    let had = text_all c.new-time.result c.push_time.new.text words c.new-time.ensures c.push_time.ensures in
    let s1 = text_then c.args.out.now c.push_begin.new.out c.add_right.new.self _ _ c.push_begin.ensures (c.add_right.ensures words had) in
    text_then c.args.out.now c.add_right.new.self c.push_end.new.out _ _ s1 c.push_end.ensures
