use Rattle.std.proofs.Common.{◌++◌, ◌∙◌, ap}
use Rattle.std.proofs.lemmas.Result.{on_ok_weaker}
use Rattle.apply_text.specs.Lines.{summary_text}
use Rattle.apply_writer.proofs.forms.plain_lines.PlainLinesFormLines.build_tail.Goals as goal

-- the summary is that of what the lines are for
pub returns-clause-ok : goal.returns-clause-ok
returns-clause-ok c =
    let s = c.args.self.now in
    on_ok_weaker c.push_summary.result
    (λ is. is ∙ ap (λ before. before ++ summary_text s.start c.args.latest s.operation c.args.counts.now) c.clear.ensures)
    c.push_summary.ensures.ok
