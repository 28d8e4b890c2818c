use Rattle.std.proofs.Common.{◌<◌, ◌≤◌, length, ⊎_elim}
use Rattle.std.proofs.lemmas.Bool.{cases_lt}
use Rattle.apply_events.specs.Lanes.Dealing.{lanes}
use Rattle.laws_run.proofs.TimeLines.Partition.{is_partition}
use Rattle.laws_run.proofs.TimeLines.StepTimes.{none_begins, one_begin}
use Rattle.laws_run.proofs.WholeBegins.{begins_once}
use Rattle.laws_run.proofs.time_lines_without_waits.a_step_takes_the_seconds_that_its_end_names.Goals as goal

pub returns-clause-of_changes : goal.returns-clause-of_changes
returns-clause-of_changes c work n change step events line = ⊎_elim
    (λ (some : 0 < n). one_begin work n (length work.plan.changes) change step (lanes work n) events (is_partition work n some) line.interleaved)
    (λ (none : n ≤ 0). none_begins change step n events none line.interleaved.named)
    (cases_lt 0 n)

pub returns-clause-of_steps : goal.returns-clause-of_steps
returns-clause-of_steps c work n change step events line = ⊎_elim
    (λ (some : 0 < n). begins_once work change step events (c.steps_are_whole.ensures work n events some line))
    (λ (none : n ≤ 0). none_begins change step n events none line.interleaved.named)
    (cases_lt 0 n)
