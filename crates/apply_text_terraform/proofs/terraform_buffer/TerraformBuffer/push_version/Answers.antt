use Rattle.std.proofs.Common.{◌∙◌}
use Rattle.apply_text_terraform.proofs.LinesAdded.{line_added, version_is}
use Rattle.apply_text_terraform.proofs.terraform_buffer.TerraformBuffer.push_version.Goals as goal

pub returns-clause-ok : goal.returns-clause-ok
returns-clause-ok c =
    line_added c.end_line.result _ _ _ _ _ _ _ _ (c.self.view_is ∙ c.begin_line-out.ensures.lines) c.begin_line-out.ensures.tokens c.put_version-written.ensures.ok c.end_line.ensures.ok
    (version_is c.args.plan.now c.args.start _ _ c.version.ensures c.new-timestamp.ensures)
