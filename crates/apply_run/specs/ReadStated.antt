-- What was read for Terraform's form, as the values that bytes state.
use Rattle.apply_plan_terraform.specs.Extras.{extras_view}
use Rattle.apply_plan_terraform.specs.ReadDetails.{details_view}
use Rattle.apply_run.specs.declared.stated_inputs.ReadStated as code
use Rattle.apply_run.specs.Read.{StatedInputs}

-- what the code's value of these stands for
abbrev pub stated_view : code.ReadStated → StatedInputs
stated_view stated = record {
  plan = stated.read.plan;
  script = stated.read.script;
  details = details_view stated.details;
  extras = extras_view stated.extras;
}
