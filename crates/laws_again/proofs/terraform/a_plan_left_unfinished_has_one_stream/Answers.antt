use Rattle.std.proofs.Common.{◌≡◌, ◌∙◌, ◌+◌, List, [], ◌∷◌, true, false, sym, ap}
use Rattle.std.specs.Prelude.{nat_lt}
use Rattle.apply_events.specs.declared.event.Event.{Event}
use Rattle.apply_events.specs.Totals.{totals_of}
use Rattle.apply_plan_terraform.specs.declared.plan_notes.PlanNote.TheVariants.{Unfinished}
use Rattle.apply_plan_terraform.specs.Notes.{note_of_plan}
use Rattle.apply_writer.specs.Stream.Form.{stream_in}
use Rattle.apply_writer.specs.Stream.Terraform.{terraform_form}
use Rattle.laws_own_streams.specs.Runs.{without_hooks}
use Rattle.laws_steps_again.proofs.WholeSteps.{yes_or}
use Rattle.laws_again.proofs.TerraformComesAgain.{has_error_stream, with_error, without_changes}
use Rattle.laws_again.proofs.TerraformRuns.{same_outputs}
use Rattle.laws_again.proofs.terraform.a_plan_left_unfinished_has_one_stream.Goals as goal

pub returns : goal.returns
returns c plan script other details lanes start operation stream again details_are unfinished own anew =
    let saved = own.stated.plan in
    let bare = without_changes saved in
    let first = has_error_stream plan script lanes start operation stream own saved details own.read.plan_is details_are unfinished in
    let second = has_error_stream plan other lanes start operation again anew saved details own.read.plan_is details_are unfinished in
    let counts = totals_of bare first.events in
    second.stream_is
    ∙ ap (λ (events : List Event). stream_in (terraform_form bare [] (with_error details second.outputs) start operation) events)
    (c.time_lines_are_unique.ensures (without_hooks bare []) lanes second.events first.events second.time_line first.time_line)
    ∙ same_outputs bare [] (with_error details first.outputs) start first.events operation first.outputs second.outputs
    (c.no_stream_depends_on_a_sensitive_value.ensures.outputs bare [] details.changes (note_of_plan Unfinished ∷ []) second.outputs first.outputs start operation first.events)
    (λ passed apply. let both : true ≡ false = sym (yes_or (nat_lt 0 (counts.failed + counts.halted))) ∙ passed in absurd cc)
    ∙ sym first.stream_is
