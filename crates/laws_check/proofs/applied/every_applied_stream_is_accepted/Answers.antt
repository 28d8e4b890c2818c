use Rattle.apply_text.specs.Lines.{stream_of}
use Rattle.apply_text_terraform.specs.declared.form.Form.TheVariants.{Applystream}
use Rattle.apply_run.specs.FromBytes.{work_for}
use Rattle.laws_check.proofs.Delivered.{bytes_reported, stream_reported}
use Rattle.laws_check.proofs.Schedules.{can_run}
use Rattle.laws_check.proofs.applied.every_applied_stream_is_accepted.Goals as goal

pub returns-clause-stream : goal.returns-clause-stream
returns-clause-stream c plans schedule given start operation report before after applied deleted hooks short =
    let work = work_for Applystream given applied.read in
    let streamed = applied.streamed in
    let can = can_run schedule work applied.sizes (c.what_was_read_is_within_limits.ensures given work applied.is_read).few_steps in
    stream_reported work.plan streamed.events (stream_of work.plan work.script start operation streamed.events) report before.bytes after.bytes streamed.whole.delivered plans
    (c.every_stream_of_what_was_read_is_accepted.ensures plans schedule given work start streamed.events operation can applied.is_read deleted hooks streamed.run short)

pub returns-clause-bytes : goal.returns-clause-bytes
returns-clause-bytes c plans schedule given start operation report before after bytes applied deleted hooks none all short =
    let work = work_for Applystream given applied.read in
    let streamed = applied.streamed in
    bytes_reported work.plan streamed.events (stream_of work.plan work.script start operation streamed.events) report before.bytes after.bytes streamed.whole.delivered plans bytes none all short
    (λ short. let can = can_run schedule work applied.sizes (c.what_was_read_is_within_limits.ensures given work applied.is_read).few_steps in
    c.every_stream_of_what_was_read_is_accepted.ensures plans schedule given work start streamed.events operation can applied.is_read deleted hooks streamed.run short)
