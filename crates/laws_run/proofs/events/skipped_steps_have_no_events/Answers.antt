use Rattle.std.proofs.Common.{◌<◌, ◌≤◌, ⊎_elim}
use Rattle.std.proofs.lemmas.Bool.{cases_lt}
use Rattle.laws_run.proofs.NoneSkipped.{in_no_lane, none_of_change, of_workers}
use Rattle.laws_run.proofs.events.skipped_steps_have_no_events.Goals as goal

pub returns-clause-by_workers : goal.returns-clause-by_workers
returns-clause-by_workers c = of_workers

pub returns-clause-in_lanes : goal.returns-clause-in_lanes
returns-clause-in_lanes c work n events line = ⊎_elim
    (λ (some : 0 < n). c.a_step_begins_exactly_where_its_waits_are_done.ensures.applied work n events some line)
    (λ (none : n ≤ 0). in_no_lane work n events none line.interleaved.named)
    (cases_lt 0 n)

pub returns-clause-of_the_change : goal.returns-clause-of_the_change
returns-clause-of_the_change c = none_of_change
