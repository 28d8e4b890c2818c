use Rattle.std.proofs.Common.{◌<◌, arith, ap, ◌∙◌}
use Rattle.std.specs.Prelude.{nat_lt}
use Rattle.apply_events.specs.Totals.{is_halted}
use Rattle.apply_text_terraform.specs.declared.form.Form.TheVariants.{Terraform}
use Rattle.apply_run.specs.FromBytes.{work_for}
use Rattle.laws_check.proofs.Errors.{any_counted}
use Rattle.laws_check.proofs.LeftOut.{left_out}
use Rattle.laws_check.proofs.applied_in_form.creates_that_never_start_are_skipped_or_wait_in_vain.Goals as goal

pub returns : goal.returns
returns c given lanes start operation report before after applied none =
    let some : 0 < lanes = (let low = applied.sizes.some in omega arith) in
    let events = applied.streamed.events in
    let work = work_for Terraform given applied.read in
    left_out work events (c.steps_are_whole.ensures work lanes events some applied.streamed.run)
    (any_counted (λ e. is_halted e.what) events ∙ ap (nat_lt 0) none)
    (c.lanes_leave_out_what_waits_in_vain.ensures Terraform given lanes start operation report before after applied)
