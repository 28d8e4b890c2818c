use Rattle.std.proofs.Common.{ap, codes, ◌++◌}
use Rattle.term_text.specs.Shown.{shown_text}
use Rattle.term_words.proofs.Appended.{text_as, text_then}
use Rattle.stream_watch.specs.Changes.{change_view, drift_words, object_words}
use Rattle.stream_watch.proofs.rows.planned.push_drift.Goals as goal

pub returns : goal.returns
unfolding drift_words
returns c =
    let outside = codes "changed outside of Terraform (" in
    let action = shown_text c.args.change.action.now in
    let named = text_as c.text.new.self c.escaped.new.self _ action (ap shown_text c.as_bytes.ensures.value) c.escaped.ensures in
    let front = text_then c.args.text.now c.text.new.self c.escaped.new.self outside action c.text.ensures named in
    let closed = text_then c.args.text.now c.escaped.new.self c.text-2.new.self (outside ++ action) (codes "): ") front c.text-2.ensures in
    text_then c.args.text.now c.text-2.new.self c.push_object.new.text (outside ++ action ++ codes "): ") (object_words (change_view c.args.change)) closed c.push_object.ensures
