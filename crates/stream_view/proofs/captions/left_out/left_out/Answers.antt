use Rattle.term_words.proofs.Appended.{text_all, text_then}
use Rattle.stream_view.proofs.captions.left_out.left_out.Goals as goal

pub returns : goal.returns
returns c =
    let s1 = text_then c.new-message.result c.more_things.new.self c.text.new.self _ _ c.more_things.ensures c.text.ensures in
    let s2 = text_then c.new-message.result c.text.new.self c.duration.new.self _ _ s1 c.duration.ensures in
    let s3 = text_then c.new-message.result c.duration.new.self c.text-2.new.self _ _ s2 c.text-2.ensures in
    let s4 = text_then c.new-message.result c.text-2.new.self c.duration-2.new.self _ _ s3 c.duration-2.ensures in
    let s5 = text_then c.new-message.result c.duration-2.new.self c.text-3.new.self _ _ s4 c.text-3.ensures in
    text_all c.new-message.result c.text-3.new.self _ c.new-message.ensures s5
