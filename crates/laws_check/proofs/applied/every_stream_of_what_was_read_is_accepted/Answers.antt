use Rattle.laws_check.proofs.applied.every_stream_of_what_was_read_is_accepted.Goals as goal

pub returns : goal.returns
returns c plans schedule given work start events operation can read deleted hooks run short =
    let limits = c.what_was_read_is_within_limits.ensures given work read in
    let each = c.every_event_of_a_run_can_happen.ensures in
    c.every_stream_of_whole_steps_that_were_read_is_accepted.ensures plans given work start events operation read deleted
    (each.few schedule work events can limits run) (each.fit schedule work events can limits hooks run) (c.a_run_is_of_whole_steps.ensures schedule work events can run) short
