use Rattle.std.proofs.Common.{[], length, slice_index_or, subst, sym}
use Rattle.apply_events.specs.Fits.{Fits}
use Rattle.apply_run.specs.Schedule.{ByWorkers, InLanes}
use Rattle.laws_check.proofs.Given.{each_held, held_all}
use Rattle.std.specs.List.{AllByRecursion}
use Rattle.laws_check.proofs.RunEvents.{of_parts}
use Rattle.laws_check.proofs.applied.every_event_of_a_run_can_happen.Goals as goal

pub returns-clause-few : goal.returns-clause-few
returns-clause-few c (ByWorkers workers capacity) work events can limits run =
    c.changes_that_are_dealt_out_have_few_events.ensures work workers run.lists events limits run.applied.dealt_out run.applied.interleaved
returns-clause-few c (InLanes lanes) work events can limits line = c.a_time_line_has_few_events.ensures.few work lanes events can.0 limits line

pub returns-clause-fit : goal.returns-clause-fit
returns-clause-fit c (ByWorkers workers capacity) work events can limits hooks run =
    let P = Fits work.plan work.script in
    let interleaved = run.applied.interleaved in
    held_all P events
    (of_parts P workers events interleaved.named (λ worker less.
    let named = c.a_list_of_a_partition_names_each_number_once.ensures workers (length work.plan.changes) worker run.lists run.applied.dealt_out less in
    subst (AllByRecursion P) (sym (interleaved.parts worker less)) (each_held P _ (c.every_event_can_happen.ensures.of_worker work worker (slice_index_or run.lists worker []) limits hooks (record { known = named.0; once = named.1 })))))
returns-clause-fit c (InLanes lanes) work events can limits hooks line = c.every_event_of_a_time_line_can_happen.ensures work lanes events can.0 limits hooks line
