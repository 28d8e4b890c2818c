use Rattle.laws_run.proofs.TimeLineFits.{time_line_fits}
use Rattle.laws_run.proofs.events.every_event_of_a_time_line_can_happen.Goals as goal

pub returns : goal.returns
returns c work n events some limits hooks line =
    time_line_fits work events hooks (c.steps_are_whole.ensures work n events some line) (c.a_time_line_has_few_events.ensures.of_plan work n events some limits line)
