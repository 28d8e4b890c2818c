use Rattle.term_words.proofs.Appended.{text_then}
use Rattle.stream_view.proofs.captions.heading.push_completed.Goals as goal

pub returns : goal.returns
returns c =
    let s1 = text_then c.args.text.now c.push_steps.new.text c.count.new.self _ _ c.push_steps.ensures c.count.ensures in
    let s2 = text_then c.args.text.now c.count.new.self c.text.new.self _ _ s1 c.text.ensures in
    let s3 = text_then c.args.text.now c.text.new.self c.count-2.new.self _ _ s2 c.count-2.ensures in
    let s4 = text_then c.args.text.now c.count-2.new.self c.text-2.new.self _ _ s3 c.text-2.ensures in
    let s5 = text_then c.args.text.now c.text-2.new.self c.count-3.new.self _ _ s4 c.count-3.ensures in
    text_then c.args.text.now c.count-3.new.self c.text-3.new.self _ _ s5 c.text-3.ensures
