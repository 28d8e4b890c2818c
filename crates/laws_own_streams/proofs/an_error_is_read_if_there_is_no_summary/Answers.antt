use Rattle.std.proofs.Common.{◌≡◌, ◌<◌, ◌≤◌, length, ap, arith}
use Rattle.apply_hooks.specs.Hooks.{max_hooks}
use Rattle.apply_text_terraform.specs.declared.form.Form.TheVariants.{Terraform}
use Rattle.apply_run.specs.FromBytes.{work_for}
use Rattle.apply_run.specs.Schedule.{InLanes}
use Rattle.apply_run.specs.Read.{applied_plan, applied_script, extras_of}
use Rattle.laws_own_streams.proofs.OwnErrors.{errors_agree}
use Rattle.laws_lines.proofs.Happening.{all_planned}
use Rattle.laws_own_streams.proofs.an_error_is_read_if_there_is_no_summary.Goals as goal

pub returns : goal.returns
returns c given stated lanes start events is run =
    let work = work_for Terraform given stated in
    let some : 0 < lanes = (let low = run.some in omega arith) in
    let few_hooks : length given.hooks ≤ max_hooks = (let none : length given.hooks ≡ 0 = ap length run.hooks in omega arith) in
    let limits = (c.what_was_read_for_terraforms_form_may_be_applied.ensures given stated is).limits in
    let fit = c.every_event_of_a_time_line_can_happen.ensures work lanes events some limits few_hooks run.line in
    errors_agree work events (c.a_run_is_of_whole_steps.ensures (InLanes lanes) work events (some, limits.few_steps) run.line) (extras_of stated)
    (all_planned (applied_plan stated) (applied_script stated) events fit)
