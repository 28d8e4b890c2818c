use Rattle.apply_text_terraform.specs.declared.form.Form.TheVariants.{Terraform}
use Rattle.apply_run.specs.FromBytes.{work_for}
use Rattle.laws_check.proofs.Schedules.{can_run}
use Rattle.laws_check.proofs.applied_in_form.every_run_in_terraforms_form_is_accepted.Goals as goal

pub returns : goal.returns
returns c plans schedule given start operation report before after applied deleted hooks =
    let run = applied.streamed.run in
    let events = applied.streamed.events in
    let work = work_for Terraform given applied.read in
    let limits = (c.what_was_read_for_terraforms_form_may_be_applied.ensures given applied.read applied.is_read).limits in
    let can = can_run schedule work applied.sizes limits.few_steps in
    let each = c.every_event_of_a_run_can_happen.ensures in
    c.every_stream_of_whole_steps_in_terraforms_form_is_accepted.ensures plans given applied.read start operation events applied.is_read deleted
    (each.few schedule work events can limits run) (each.fit schedule work events can limits hooks run) (c.a_run_is_of_whole_steps.ensures schedule work events can run)
