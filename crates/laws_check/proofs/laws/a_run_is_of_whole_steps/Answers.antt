use Rattle.apply_run.specs.Schedule.{ByWorkers, InLanes}
use Rattle.laws_check.proofs.Parts.{run_of_whole_steps}
use Rattle.laws_check.proofs.TurnParts.{of_whole_steps}
use Rattle.laws_check.proofs.laws.a_run_is_of_whole_steps.Goals as goal

pub returns : goal.returns
returns c (ByWorkers workers capacity) work events can run = run_of_whole_steps work workers run.lists events run.applied.dealt_out run.applied.interleaved
returns c (InLanes n) work events can line =
    of_whole_steps work events can.1 (c.steps_are_whole.ensures work n events can.0 line) (c.a_step_comes_after_what_it_waits_for.ensures work n events can.0 can.1 line)
    (c.a_step_begins_exactly_where_its_waits_are_done.ensures.begins work n events can.0 can.1 line)
