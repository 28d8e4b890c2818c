use Rattle.std.proofs.Common.{ap}
use Rattle.term_text.specs.Shown.{shown_text}
use Rattle.term_words.proofs.Appended.{text_as, text_then}
use Rattle.stream_watch.specs.Changes.{change_view, in_parentheses, notes_of, object_words}
use Rattle.stream_watch.proofs.rows.planned.push_object.Goals as goal

pub returns : goal.returns
unfolding object_words
returns c =
    let address = shown_text c.args.change.address.now in
    let notes = notes_of (change_view c.args.change) in
    let named = text_as c.args.text.now c.escaped.new.self _ address (ap shown_text c.as_bytes.ensures.value) c.escaped.ensures in
    text_then c.args.text.now c.escaped.new.self c.push_in_parentheses.new.text address (in_parentheses notes) named
    (c.push_in_parentheses.ensures notes c.notes_of.ensures)
