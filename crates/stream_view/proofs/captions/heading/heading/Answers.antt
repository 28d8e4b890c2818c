use Rattle.term_words.proofs.Appended.{text_all, text_then}
use Rattle.stream_view.proofs.captions.heading.heading.Goals as goal

pub returns : goal.returns
returns c =
    let s1 = text_then c.new-text.result c.push_version.new.text c.push_headline.new.text _ _ c.push_version.ensures c.push_headline.ensures in
    text_all c.new-text.result c.push_headline.new.text _ c.new-text.ensures s1
