-- The outputs that a run prints, and those that a run with the recorded script prints.
use Rattle.std.specs.Prelude.{◌≡◌, List, map}
use Rattle.serde_json.specs.Data.{no_members}
use Rattle.apply_model.specs.declared.details.output.Output.{Output}
use Rattle.apply_plan_terraform.specs.Outputs.{OutputsOfPlan, written_outputs}
use Rattle.apply_text_terraform.specs.Laws.{without_secret}
use Rattle.stream_record.specs.declared.output as script
use Rattle.stream_record_script.specs.Outputs.{script_outputs}
use Rattle.laws_lines.specs.Outputs.{outputs_told}
use Rattle.laws_record.specs.Extras.{outputs_by_name}

-- the outputs of the script that `record` writes of a stream with these outputs
abbrev pub recorded_outputs : OutputsOfPlan → List Output → List script.Output.Output
recorded_outputs plan outputs = script_outputs plan (outputs_told outputs)

-- the outputs that a run of the plan with that script prints
abbrev pub told_again : OutputsOfPlan → List Output → List Output
told_again plan outputs = written_outputs plan (outputs_by_name (recorded_outputs plan outputs) no_members)

-- No line shows a difference: the outputs are equal but for values of sensitive outputs.
abbrev pub AreShownAlike : (one other : List Output) → Type 0
AreShownAlike one other = map without_secret one ≡ map without_secret other
