use Rattle.term_words.proofs.Appended.{text_more}
use Rattle.stream_view.proofs.markdown.fence.back_of.Goals as goal

pub returns : goal.returns
returns c = text_more c.more_line-back.result c.push_fence.new.text _ _ c.more_line-back.ensures c.push_fence.ensures
