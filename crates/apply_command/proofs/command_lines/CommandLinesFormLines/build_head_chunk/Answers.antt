use Rattle.apply_command.proofs.PreparedForms.{chunks_are, forms_are}
use Rattle.apply_command.proofs.command_lines.CommandLinesFormLines.build_head_chunk.Goals as goal

pub returns-in_err-line-clause-form : goal.returns-in_err-line-clause-form
returns-in_err-line-clause-form c = forms_are c.line_at.new.self c.args.self.now c.line_at.ensures.same

pub returns-in_err-line-clause-head_chunks : goal.returns-in_err-line-clause-head_chunks
returns-in_err-line-clause-head_chunks c = chunks_are c.line_at.new.self c.args.self.now c.line_at.ensures.same

pub returns-clause-form : goal.returns-clause-form
returns-clause-form c = forms_are c.line_at.new.self c.args.self.now c.line_at.ensures.same

pub returns-clause-head_chunks : goal.returns-clause-head_chunks
returns-clause-head_chunks c = chunks_are c.line_at.new.self c.args.self.now c.line_at.ensures.same
