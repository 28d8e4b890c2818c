use Rattle.term_words.proofs.Appended.{text_then}
use Rattle.stream_view.proofs.captions.heading.push_steps.Goals as goal

pub returns : goal.returns
returns c =
    let s1 = text_then c.args.text.now c.things.new.self c.text.new.self _ _ c.things.ensures c.text.ensures in
    let s2 = text_then c.args.text.now c.text.new.self c.duration.new.self _ _ s1 c.duration.ensures in
    text_then c.args.text.now c.duration.new.self c.text-2.new.self _ _ s2 c.text-2.ensures
