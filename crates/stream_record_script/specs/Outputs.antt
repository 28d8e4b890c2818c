-- Which outputs of a stream a recorded script states.
use Rattle.std.specs.Prelude.{ℕ, ◌&&◌, ◌||◌, List, ◌++◌, codes, filter, Bool, false, not, if◌then◌else◌, Option, Some, None}
use Rattle.std.specs.Bool.{beq}
use Rattle.std.specs.List.{filter_map, find, flat_map}
use Rattle.std.specs.Option.{option_map_or}
use Rattle.std.specs.Str.{bytes_eq}
use Rattle.serde_json.specs.Data.{no_members}
use Rattle.apply_model.specs.declared.details.output as told
use Rattle.apply_plan_terraform.specs.Outputs.{OutputsOfPlan, has_output, written_outputs}
use Rattle.stream_record.specs.declared.output as script
use Rattle.stream_record_lines.specs.declared.outputs.output.Output.{Output}
use Rattle.stream_record_warnings.specs.Lines.{warning}
use Rattle.term_text.specs.Shown.{shown_text}

-- The outputs that a run tells without a script.
abbrev pub outputs_told : OutputsOfPlan → List told.Output.Output
outputs_told plan = written_outputs plan no_members

-- The plan has the output after the apply.
abbrev pub is_known : OutputsOfPlan → Output → Bool
is_known plan output = has_output plan output.name

abbrev pub known_outputs : OutputsOfPlan → List Output → List Output
known_outputs plan outputs = filter (is_known plan) outputs

abbrev pub unknown_outputs : OutputsOfPlan → List Output → List Output
unknown_outputs plan outputs = filter (λ output. not (is_known plan output)) outputs

-- The output has that value.
abbrev pub is_value : (value : List ℕ) → Option (List ℕ) → Bool
is_value value json = option_map_or (λ json. bytes_eq json value) json false

-- A run tells the output the same way: with this type, and with this value, if it may be shown.
abbrev pub is_same : Output → told.Output.Output → Bool
is_same output other =
    beq output.is_sensitive other.sensitive && (bytes_eq output.type_json other.kind
    && (output.is_sensitive || is_value other.value output.value_json))

-- The first output of that name.
abbrev pub output_named : List told.Output.Output → (name : List ℕ) → Option told.Output.Output
output_named outputs name = find (λ output. bytes_eq name output.name) outputs

abbrev pub is_told : List told.Output.Output → Output → Bool
is_told outputs output = option_map_or (is_same output) (output_named outputs output.name) false

-- The value, unless it must not be shown.
abbrev pub shown_value : Output → Option (List ℕ)
shown_value output = if output.is_sensitive then None else output.value_json

abbrev pub script_output : Output → script.Output.Output
script_output output = record {
  name = output.name;
  is_sensitive = output.is_sensitive;
  type_json = output.type_json;
  value_json = shown_value output;
}

abbrev pub unless_told : List told.Output.Output → Output → Option script.Output.Output
unless_told outputs output = if is_told outputs output then None else Some (script_output output)

-- The outputs of the script: those that the plan has, but for what a run tells the same way.
abbrev pub script_outputs : OutputsOfPlan → List Output → List script.Output.Output
script_outputs plan outputs = filter_map (unless_told (outputs_told plan)) (known_outputs plan outputs)

-- ---- warnings

abbrev pub output_warning : Output → List ℕ
output_warning output =
    warning (codes "the output " ++ (shown_text output.name ++ codes " is no output of the plan"))

-- A warning for each output that the plan does not have.
abbrev pub output_warnings : OutputsOfPlan → List Output → List ℕ
output_warnings plan outputs = flat_map output_warning (unknown_outputs plan outputs)
