use Rattle.std.proofs.Common.{◌<◌, ◌^◌, length, arith}
use Rattle.apply_text_terraform.specs.declared.form.Form.TheVariants.{Terraform}
use Rattle.apply_run.specs.FromBytes.{form_for, work_for}
use Rattle.apply_run.specs.Read.{applied_plan, applied_script, extras_of}
use Rattle.apply_writer.specs.Stream.Form.{stream_in}
use Rattle.laws_check.specs.ReadBackInForm.{stream_read_back_in_form}
use Rattle.laws_check.proofs.FormAccepted.{are_accepted, accepted_as_stated}
use Rattle.laws_check.proofs.applied_in_form.every_stream_of_whole_steps_in_terraforms_form_is_accepted.Goals as goal

pub returns : goal.returns
returns c plans given stated start operation events is deleted most fit steps =
    let plan = applied_plan stated in
    let script = applied_script stated in
    let extras = extras_of stated in
    let few : length events < 2 ^ 64 = omega arith in
    let may = c.what_was_read_for_terraforms_form_may_be_applied.ensures given stated is in
    let lines = c.every_line_in_terraforms_form_is_read_back.ensures plan script extras start operation (c.what_was_read_for_terraforms_form_can_be_read_back.ensures given stated is) events
    (c.events_that_can_happen_fit_bits.ensures plan script events may.limits.short_steps fit few) in
    let taken = accepted_as_stated plans stated operation events (c.all_but_no_ops_are_planned.ensures given.plan stated.plan stated.details is.plan_is is.details_are).as_many
    (λ others as_many. c.whole_steps_are_accepted_in_terraforms_form.ensures plans (work_for Terraform given stated) others operation events (may.ordinary deleted) may.whole as_many may.provisions may.warnings steps) in
    are_accepted plans stated operation events (stream_in (form_for Terraform stated start operation) events) lines taken
    (λ short. c.lines_are_judged_by_their_messages.ensures.verdict plans lines.lines (stream_read_back_in_form plan script extras operation events) taken.messages lines.say short taken.accepted)
    (λ short. c.lines_are_judged_by_their_messages.ensures.messages plans lines.lines (stream_read_back_in_form plan script extras operation events) taken.messages lines.say short taken.accepted)
