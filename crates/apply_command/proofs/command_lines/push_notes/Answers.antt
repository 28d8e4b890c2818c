use Rattle.std.proofs.Common.{sym, append-nil}
use Rattle.apply_text_terraform.specs.Lines.{note_text}
use Rattle.apply_writer.proofs.Streams.Notes.{all_texts, one_more}
use Rattle.apply_command.proofs.command_lines.push_notes.Goals as goal

pub loop-note-init : goal.loop-note-init
loop-note-init c = sym (append-nil c.args.buffer.now)

pub loop-note-preserved : goal.loop-note-preserved
loop-note-preserved c =
    one_more (note_text c.args.start c.args.clock) c.args.buffer.now c.args.notes.now c.loop-note.note-index c.note-item.result _ _ c.loop-note-test.true c.note-item.is c.loop-note.invariant c.in_ok-push_note.ensures.ok

pub returns : goal.returns
returns c = all_texts (note_text c.args.start c.args.clock) c.args.buffer.now c.args.notes.now c.loop-note.note-index _ c.loop-note-test.false c.loop-note.invariant
