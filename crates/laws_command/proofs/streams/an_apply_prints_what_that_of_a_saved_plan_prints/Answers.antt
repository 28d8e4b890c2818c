use Rattle.std.proofs.Common.{◌+◌}
use Rattle.apply_command.specs.Reading.{head_inputs}
use Rattle.apply_run.specs.FromBytes.{form_for}
use Rattle.apply_text_terraform.specs.declared.form.Form.TheVariants.{Terraform}
use Rattle.laws_command.proofs.Beginnings.{stream_is}
use Rattle.laws_command.proofs.SavedPlans.{same_stream, same_work}
use Rattle.laws_command.proofs.streams.an_apply_prints_what_that_of_a_saved_plan_prints.Goals as goal

pub returns : goal.returns
returns c = record {
  inputs = λ command refresh given read is. is.stated;
  work = λ command refresh lanes given read whole. same_work command lanes read whole refresh given;
  stream = λ command lanes read start operation events whole. (
    same_stream command lanes read whole start operation events,
    stream_is (form_for Terraform read.stated (start + (head_inputs command lanes read start).took) operation) events,
  );
}
