use Rattle.std.proofs.Common.{◌++◌}
use Rattle.std.specs.Prelude.{codes}
use Rattle.term_words.proofs.Appended.{text_then}
use Rattle.stream_watch.specs.Printed.{time_text}
use Rattle.stream_panel.specs.Rows.{others_words, to_words}
use Rattle.stream_panel.proofs.others.push_others.Goals as goal

pub returns : goal.returns
unfolding others_words
returns c =
    let t0 = c.args.text.now in
    let shorter = time_text c.args.shortest in
    let longer = time_text c.args.longest in
    let name = codes "  others " in
    let w2 = text_then t0 c.text.new.self c.add.new.self name shorter c.text.ensures (c.add.ensures shorter c.time_of-shorter.ensures) in
    text_then t0 c.add.new.self c.push_longer.new.text (name ++ shorter) (to_words shorter longer) w2
    (c.push_longer.ensures shorter longer c.time_of-shorter.ensures c.time_of-longer.ensures)
