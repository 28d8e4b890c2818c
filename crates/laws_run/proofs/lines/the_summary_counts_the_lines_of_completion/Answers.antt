use Rattle.laws_run.proofs.Completions.{all}
use Rattle.laws_run.proofs.lines.the_summary_counts_the_lines_of_completion.Goals as goal

pub returns : goal.returns
returns c = all
