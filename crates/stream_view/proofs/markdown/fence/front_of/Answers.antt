use Rattle.term_words.proofs.Appended.{text_all, text_then}
use Rattle.stream_view.proofs.markdown.fence.front_of.Goals as goal

pub returns : goal.returns
returns c =
    let s1 = text_then c.new-front.result c.text.new.self c.bytes.new.self _ _ c.text.ensures c.bytes.ensures in
    let s2 = text_then c.new-front.result c.bytes.new.self c.text-2.new.self _ _ s1 c.text-2.ensures in
    let s3 = text_then c.new-front.result c.text-2.new.self c.push_fence.new.text _ _ s2 c.push_fence.ensures in
    text_all c.new-front.result c.push_fence.new.text _ c.new-front.ensures s3
