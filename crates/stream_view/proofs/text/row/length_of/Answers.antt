use Rattle.std.proofs.Common.{◌++◌, ap₂}
use Rattle.term_words.specs.Words.{duration_words}
use Rattle.term_words.proofs.Appended.{text_all, text_as, text_then}
use Rattle.stream_view.proofs.text.row.length_of.Goals as goal

pub returns : goal.returns
returns c =
    let s1 = text_then c.new-length.result c.text.new.self c.duration.new.self _ _ c.text.ensures c.duration.ensures in
    text_all c.new-length.result c.duration.new.self _ c.new-length.ensures
    (text_as c.new-length.result c.duration.new.self (c.bound_of.result.now ++ duration_words c.length.result) _
    (ap₂ (λ bound length. bound ++ duration_words length) c.bound_of.ensures c.length.ensures) s1)
