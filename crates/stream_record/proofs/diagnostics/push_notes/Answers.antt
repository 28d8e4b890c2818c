use Rattle.std.specs.Prelude.{codes}
use Rattle.stream_record.specs.ScriptText.{note_text, notes_text}
use Rattle.stream_record.proofs.Items.{drop_at, list_ended, list_pushed}
use Rattle.stream_record.proofs.diagnostics.push_notes.Goals as goal

pub loop-note-preserved : goal.loop-note-preserved
loop-note-preserved c =
    list_pushed (codes ",\"diagnostics\":[") (codes "]") note_text c.args.notes.now c.loop-note.note-index c.loop-note.later
    (notes_text c.args.notes.now) _ _ c.loop-note.text c.push_opening.new.text c.push_note.new.text
    (drop_at _ _ _ c.loop-note-test.true c.note-item.is) c.loop-note.invariant c.push_opening.ensures c.push_note.ensures

pub returns : goal.returns
returns c =
    list_ended (codes ",\"diagnostics\":[") (codes "]") note_text c.args.notes.now c.loop-note.note-index c.loop-note.later
    (notes_text c.args.notes.now) _ c.loop-note.text c.push_closing.new.text
    c.loop-note-test.false c.loop-note.invariant c.push_closing.ensures
