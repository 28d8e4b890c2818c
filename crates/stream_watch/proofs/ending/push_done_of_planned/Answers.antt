use Rattle.std.proofs.Common.{codes, ◌++◌}
use Rattle.term_words.proofs.Appended.{text_then}
use Rattle.term_words.specs.Words.{grouped}
use Rattle.stream_watch.specs.Ending.{done_of_planned}
use Rattle.stream_watch.proofs.ending.push_done_of_planned.Goals as goal

pub returns : goal.returns
unfolding done_of_planned
returns c =
    let t0 = c.args.text.now in
    let done = grouped c.args.counts.done in
    let planned = grouped c.args.counts.planned in
    let w2 = text_then t0 c.count.new.self c.text.new.self done (codes " of ") c.count.ensures c.text.ensures in
    let w3 = text_then t0 c.text.new.self c.count-2.new.self (done ++ codes " of ") planned w2 c.count-2.ensures in
    text_then t0 c.count-2.new.self c.text-2.new.self (done ++ codes " of " ++ planned) (codes " planned steps done") w3 c.text-2.ensures
