use Rattle.std.proofs.Common.{◌++◌, ap}
use Rattle.stream_view.specs.Markdown.{back_bytes, fence_around, front_bytes, kept_text}
use Rattle.stream_view.proofs.MarkdownLaws.{lines_cut, whole_lines}
use Rattle.stream_view.proofs.laws.whole_lines_are_cut_and_counted.Goals as goal

pub returns-clause-whole : goal.returns-clause-whole
returns-clause-whole c = whole_lines

pub returns-clause-counted : goal.returns-clause-counted
returns-clause-counted c = λ headline inside.
    ap (λ more. front_bytes headline (fence_around headline inside) ++ kept_text headline inside ++ back_bytes more (fence_around headline inside))
    (lines_cut headline inside)
