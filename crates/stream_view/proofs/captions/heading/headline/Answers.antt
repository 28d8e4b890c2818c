use Rattle.term_words.proofs.Appended.{text_all}
use Rattle.stream_view.proofs.captions.heading.headline.Goals as goal

pub returns : goal.returns
returns c = text_all c.new-text.result c.push_headline.new.text _ c.new-text.ensures c.push_headline.ensures
