use Rattle.std.proofs.Common.{drop, map}
use Rattle.std.specs.Prelude.{codes}
use Rattle.stream_record.specs.Parts.{list_text}
use Rattle.stream_record.specs.ScriptText.{note_text, notes_text}
use Rattle.stream_record.proofs.Remains.{Remains}
use Rattle.stream_record.proofs.diagnostics.push_notes.Given as goal

abbrev pub invariant-loop-note : goal.invariant-loop-note
invariant-loop-note l =
    Remains (list_text (codes ",\"diagnostics\":[") (codes "]") l.later (map note_text (drop l.note-index l.notes)))
    (notes_text l.notes) l.initial.text l.text
