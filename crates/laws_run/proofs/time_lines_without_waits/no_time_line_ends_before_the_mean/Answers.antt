use Rattle.laws_run.proofs.TimeLines.Busy.{no_line_ends_before_the_mean}
use Rattle.laws_run.proofs.TimeLines.Sharing.{no_end_before_the_mean}
use Rattle.laws_run.proofs.time_lines_without_waits.no_time_line_ends_before_the_mean.Goals as goal

pub returns-clause-of_events : goal.returns-clause-of_events
returns-clause-of_events c work n end events some line all = no_line_ends_before_the_mean work n end events some line all

pub returns-clause-of_lanes : goal.returns-clause-of_lanes
returns-clause-of_lanes c work n end some each = no_end_before_the_mean work n end some each
