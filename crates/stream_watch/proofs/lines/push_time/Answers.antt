use Rattle.std.proofs.Common.{ap}
use Rattle.term_words.proofs.Appended.{text_all, text_as}
use Rattle.term_words.specs.MessageTexts.{fitted_text}
use Rattle.term_words.specs.Words.{duration_words}
use Rattle.stream_watch.specs.Printed.{time_text}
use Rattle.stream_watch.proofs.lines.push_time.Goals as goal

pub returns : goal.returns
unfolding time_text
returns c =
    let words = duration_words c.from.result in
    let had = text_all c.new-time.result c.duration.new.self words c.new-time.ensures c.duration.ensures in
    text_as c.args.text.now c.add_within.new.self _ _ (ap (λ n. fitted_text 6 (duration_words n)) c.from.ensures) (c.add_within.ensures words had)
