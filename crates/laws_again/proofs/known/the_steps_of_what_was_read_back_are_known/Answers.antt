use Rattle.laws_again.proofs.known.the_steps_of_what_was_read_back_are_known.Goals as goal

pub returns : goal.returns
returns c work lanes events reading begun loose notes recorded left graph waits back are stated =
    let again = c.what_is_recorded_goes_as_the_steps_went.ensures work lanes events reading begun loose notes recorded left back in
    let followed = c.what_was_read_back_is_followed.ensures work lanes events reading begun loose notes recorded left back in
    c.the_steps_of_a_run_are_known.ensures work lanes events begun recorded graph waits
    (record { hooks = back.own.hooks; some = back.own.some; few = again.steps.few; line = back.own.line })
    (record {
      planned = again.steps.planned;
      each = again.steps.each;
      begins = again.begins;
      completed = λ d k run ran succeeds.
          (let done = c.a_recorded_step_that_does_not_fail_completed.ensures work lanes d k begun recorded reading.telling.id run again ran.0 ran.1 succeeds in
          record { fate = done.0; end = done.1.0; end_is = done.1.1 });
      in_turn = c.lines_come_in_the_order_of_messages.ensures work events reading.telling reading.start reading.first begun recorded back.plan followed;
    })
    are stated again.alike
