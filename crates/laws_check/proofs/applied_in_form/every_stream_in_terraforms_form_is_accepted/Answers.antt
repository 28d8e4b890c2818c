use Rattle.apply_text_terraform.specs.declared.form.Form.TheVariants.{Terraform}
use Rattle.apply_run.specs.FromBytes.{form_for}
use Rattle.apply_writer.specs.Stream.Form.{stream_in}
use Rattle.laws_check.proofs.FormAccepted.{bytes_reported, stream_reported}
use Rattle.laws_check.proofs.applied_in_form.every_stream_in_terraforms_form_is_accepted.Goals as goal

pub returns-clause-stream : goal.returns-clause-stream
returns-clause-stream c plans schedule given start operation report before after run deleted hooks short =
    let applied = run.applied in
    let events = applied.streamed.events in
    stream_reported plans applied.read operation events (stream_in (form_for Terraform applied.read start operation) events) report before.bytes after.bytes applied.streamed.whole.delivered run.error
    (c.every_run_in_terraforms_form_is_accepted.ensures plans schedule given start operation report.run before after applied deleted hooks) short

pub returns-clause-bytes : goal.returns-clause-bytes
returns-clause-bytes c plans schedule given start operation report before after bytes run deleted hooks none all short =
    let applied = run.applied in
    let events = applied.streamed.events in
    bytes_reported plans applied.read operation events (stream_in (form_for Terraform applied.read start operation) events) report before.bytes after.bytes applied.streamed.whole.delivered run.error
    (c.every_run_in_terraforms_form_is_accepted.ensures plans schedule given start operation report.run before after applied deleted hooks) bytes none all short
