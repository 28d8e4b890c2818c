-- The outputs of a run, as `record` reads them of their line.
use Rattle.std.specs.Prelude.{◌≢◌, List, [], ◌∷◌, false, if◌then◌else◌, Some, None, ⊤}
use Rattle.std.specs.List.{AllByRecursion, filter_map}
use Rattle.apply_model.specs.declared.details.output.Output.{Output}
use Rattle.stream_record_lines.specs.declared.outputs.output.Output as recorded
use Rattle.stream_record_lines.specs.Outputs.{StatedOutput, output_of, put_output}

-- an output as its line states it; a sensitive output has no value there
abbrev pub stated_output : Output → StatedOutput
stated_output output = record {
  name = output.name;
  has_action = false;
  is_sensitive = output.sensitive;
  type_json = Some output.kind;
  value_json = if output.sensitive then None else Some output.value;
}

-- These outputs after others. Of outputs with the same name the last one counts, in the place of
-- the first.
abbrev pub outputs_put : List Output → (found : List StatedOutput) → List StatedOutput
outputs_put [] found = found
outputs_put (output ∷ outputs) found = outputs_put outputs (put_output (stated_output output) found)

-- The outputs that can be repeated: all whose type is not `null`.
abbrev pub outputs_told : List Output → List recorded.Output
outputs_told outputs = filter_map output_of (outputs_put outputs [])

-- No output has the name of an earlier one.
abbrev pub HaveNamesApart : List Output → Type 0
HaveNamesApart [] = ⊤
HaveNamesApart (output ∷ outputs) = AllByRecursion (λ (other : Output). other.name ≢ output.name) outputs × HaveNamesApart outputs
