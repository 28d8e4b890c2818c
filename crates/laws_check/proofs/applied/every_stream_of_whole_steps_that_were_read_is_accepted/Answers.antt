use Rattle.std.proofs.Common.{◌<◌, ◌^◌, length, arith}
use Rattle.laws_check.proofs.Bytes.{short_objects}
use Rattle.laws_check.proofs.applied.every_stream_of_whole_steps_that_were_read_is_accepted.Goals as goal

pub returns : goal.returns
returns c plans given work start events operation read deleted most fit steps short =
    let plan = work.plan in
    let script = work.script in
    let limits = c.what_was_read_is_within_limits.ensures given work read in
    let few : length events < 2 ^ 64 = omega arith in
    let bits = c.events_that_can_happen_fit_bits.ensures plan script events limits.short_steps fit few in
    let back = c.a_stream_of_texts_can_be_read.ensures plan script start operation events (c.texts_that_were_read_are_utf8.ensures given plan script read) bits
    (short_objects c.a_line_has_one_line_feed.ensures plan script start operation events short) in
    c.every_stream_of_whole_steps_is_accepted.ensures plans work start events operation (c.a_plan_that_was_read_is_ordinary.ensures.plan given plan script read deleted)
    (c.a_plan_that_was_read_is_ordinary.ensures.script given plan script read) (c.a_plan_that_was_read_is_ordinary.ensures.warnings given plan script read) steps back
