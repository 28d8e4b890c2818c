use Rattle.std.proofs.Common.{◌∙◌, sym, arith}
use Rattle.apply_writer.proofs.Streams.Pieces.{pieces_count}
use Rattle.apply_writer.proofs.forms.terraform_lines.TerraformLinesFormLines.head_chunk_count.Goals as goal

pub returns-clause-count : goal.returns-clause-count
returns-clause-count c =
    let s = c.args.self.now in
    omega (arith, c.len.ensures.len, pieces_count s.plan.now s.extras.details.now s.start)
