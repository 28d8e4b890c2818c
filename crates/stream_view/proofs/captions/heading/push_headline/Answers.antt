use Rattle.term_words.proofs.Appended.{text_then}
use Rattle.stream_view.proofs.captions.heading.push_headline.Goals as goal

pub returns : goal.returns
returns c =
    let s1 = text_then c.args.text.now c.push_done.new.text c.push_uncompleted.new.text _ _ c.push_done.ensures c.push_uncompleted.ensures in
    let s2 = text_then c.args.text.now c.push_uncompleted.new.text c.push_errors.new.text _ _ s1 c.push_errors.ensures in
    text_then c.args.text.now c.push_errors.new.text c.push_summary.new.text _ _ s2 c.push_summary.ensures
