use Rattle.std.specs.Fmt.{decimal}
use Rattle.term_words.proofs.Appended.{text_all}
use Rattle.stream_watch.proofs.rows.snippet.push_right.Goals as goal

pub returns : goal.returns
returns c =
    let number = decimal c.args.number in
    c.add_right.ensures number (text_all c.new-digits.result c.number.new.self number c.new-digits.ensures c.number.ensures)
