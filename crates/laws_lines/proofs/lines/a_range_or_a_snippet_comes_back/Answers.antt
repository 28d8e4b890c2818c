use Rattle.laws_lines.proofs.Shallow.{comes_back}
use Rattle.laws_lines.proofs.lines.a_range_or_a_snippet_comes_back.Goals as goal

pub returns : goal.returns
returns c = comes_back
