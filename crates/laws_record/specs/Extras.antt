-- What Terraform's form reads of a script that `record` writes.
use Rattle.std.specs.Prelude.{◌≡◌, List, [], ◌∷◌, codes, true, false, Some}
use Rattle.std.specs.Str.{bytes_eq}
use Rattle.serde_json.specs.Data.{Data, Members, object, put}
use Rattle.apply_plan_terraform.specs.Outputs.{OutputsOfPlan, has_output}
use Rattle.apply_plan_terraform.specs.StoredOutputs.{three_members}
use Rattle.stream_record.specs.declared.output.Output.{Output}
use Rattle.stream_record.specs.Parts.{flag_text}

-- The plan has the output after the apply, and the type is not `null`.
pub record IsOfPlan (plan : OutputsOfPlan) (output : Output) : Type 0 where
  pub known : has_output plan output.name ≡ true
  pub typed : bytes_eq output.type_json (codes "null") ≡ false

-- An output with its members as JSON texts.
abbrev pub output_tree : Output → Data
output_tree output = object (three_members (Some (flag_text output.is_sensitive)) (Some output.type_json) output.value_json)

-- The outputs by name. Of outputs with the same name the last one counts.
abbrev pub outputs_by_name : List Output → (collected : Members) → Members
outputs_by_name [] collected = collected
outputs_by_name (output ∷ outputs) collected = outputs_by_name outputs (put output.name (output_tree output) collected)
