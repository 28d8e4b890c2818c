use Rattle.std.proofs.Common.{◌∙◌}
use Rattle.stream_check.specs.declared.messages.line.TheConstants.{SELECTION}
use Rattle.stream_check.proofs.SlotContents.{about_found}
use Rattle.stream_check.proofs.command.object.object_in.Goals as goal

pub returns-in-Ok : goal.returns-in-Ok
returns-in-Ok c = c.of.ensures ∙ about_found c.args.mode.find c.args.text.now c.in-Some.piece.now c.read_line.new.line c.in-Some.ensures (let read = c.in-Ok.ensures.ok in (read.0, read.1, read.2 SELECTION c.new-line.ensures))

pub read_line-requires : goal.read_line-requires
read_line-requires c = (SELECTION, c.new-line.ensures)
