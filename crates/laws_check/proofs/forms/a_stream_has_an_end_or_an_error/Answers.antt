use Rattle.apply_text_terraform.specs.declared.form.Form.TheVariants.{Terraform}
use Rattle.apply_run.specs.FromBytes.{work_for}
use Rattle.laws_check.proofs.ErrorLevels.{an_end_or_an_error}
use Rattle.laws_check.proofs.Schedules.{can_run}
use Rattle.laws_check.proofs.forms.a_stream_has_an_end_or_an_error.Goals as goal

pub returns : goal.returns
returns c schedule given start operation report before after run =
    let applied = run.applied in
    let events = applied.streamed.events in
    let work = work_for Terraform given applied.read in
    let limits = (c.what_was_read_for_terraforms_form_may_be_applied.ensures given applied.read applied.is_read).limits in
    an_end_or_an_error applied.read start operation given.hooks events report.run.counts report.contains_error
    (c.a_run_is_of_whole_steps.ensures schedule work events (can_run schedule work applied.sizes limits.few_steps) applied.streamed.run) applied.streamed.whole.delivered.counts run.error
