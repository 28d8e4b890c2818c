use Rattle.laws_run.proofs.FewInTime.{few_events, of_plan}
use Rattle.laws_run.proofs.time_lines.a_time_line_has_few_events.Goals as goal

pub returns-clause-few : goal.returns-clause-few
returns-clause-few c work n events some limits line = few_events work n events some limits line

pub returns-clause-of_plan : goal.returns-clause-of_plan
returns-clause-of_plan c work n events some limits line = of_plan work n events some limits line
