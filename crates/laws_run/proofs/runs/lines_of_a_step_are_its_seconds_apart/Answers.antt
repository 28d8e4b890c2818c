use Rattle.laws_run.proofs.LaneLines.{have_one_begin}
use Rattle.laws_run.proofs.runs.lines_of_a_step_are_its_seconds_apart.Goals as goal

pub returns : goal.returns
returns c work n change step events line =
    have_one_begin change step events
    (c.a_step_takes_the_seconds_that_its_end_names.ensures.of_steps work n change step events line)
    (λ i. c.a_hook_message_has_the_time_of_its_event.ensures events i (c.times_of_a_time_line_never_fall.ensures work n events line))
