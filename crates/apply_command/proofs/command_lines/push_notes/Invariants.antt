use Rattle.std.proofs.Common.{◌≡◌, ◌++◌, take}
use Rattle.std.specs.Prelude.{flat_map}
use Rattle.apply_text_terraform.specs.Lines.{note_text}
use Rattle.apply_command.proofs.command_lines.push_notes.Given as goal

abbrev pub invariant-loop-note : goal.invariant-loop-note
invariant-loop-note l = l.buffer ≡ l.initial.buffer ++ flat_map (note_text l.start l.clock) (take l.note-index l.notes)
