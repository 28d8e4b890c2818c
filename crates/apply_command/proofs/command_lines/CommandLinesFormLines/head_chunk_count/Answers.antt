use Rattle.apply_command.specs.Head.{line_text}
use Rattle.apply_command.specs.Lines.{prepared_head, prepared_lines}
use Rattle.apply_command.proofs.Lists.{concat_of_pieces}
use Rattle.apply_command.proofs.command_lines.CommandLinesFormLines.head_chunk_count.Goals as goal

pub returns-clause-whole : goal.returns-clause-whole
returns-clause-whole c = concat_of_pieces (line_text (prepared_head c.args.self.now.prepared.now c.args.self.now.start)) (prepared_lines c.args.self.now.prepared.now)
