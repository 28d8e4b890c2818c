use Rattle.laws_run.proofs.TimeLines.Ends.{line_ends}
use Rattle.laws_run.proofs.time_lines_without_waits.a_time_line_ends_by_the_sum_of_all_spans.Goals as goal

pub returns : goal.returns
returns c work n events some line = line_ends work n events some line
