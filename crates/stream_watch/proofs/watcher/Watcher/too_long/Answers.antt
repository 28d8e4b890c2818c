use Rattle.term_words.proofs.Appended.{text_all}
use Rattle.stream_watch.specs.Telling.{too_long_words}
use Rattle.stream_watch.proofs.watcher.Watcher.too_long.Goals as goal

pub returns : goal.returns
returns c =
    let words = too_long_words c.args.number in
    c.line.ensures words (text_all c.new-text.result c.push_too_long.new.text words c.new-text.ensures c.push_too_long.ensures)
