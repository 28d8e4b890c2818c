-- The outputs of a message (Machine-Readable UI, "Outputs").
use Rattle.std.specs.Prelude.{ℕ, List, [], ◌∷◌, codes, Bool, false, ◌||◌, if◌then◌else◌, Option, Some, None, is_some, option_map, option_and_then, unwrap_or}
use Rattle.std.specs.List.{filter_map}
use Rattle.std.specs.Str.{bytes_eq}
use Rattle.json.specs.Json as json
use Rattle.json.specs.Json.{if_last, value}
use Rattle.json.specs.Lex.{tokens}
use Rattle.serde_json.specs.Data.{Data}
use Rattle.serde_json.specs.Find.{as_bool, as_str, get}
use Rattle.serde_json.specs.Read.{max_depth}
use Rattle.apply_json.specs.Tree.{◌>>=◌, member_of}
use Rattle.apply_json.specs.Verbatim.{mixed_tree}
use Rattle.stream_record_lines.specs.declared.outputs.output.Output.{Output}
use Rattle.stream_record_lines.specs.JsonMembers.{member_json}

-- ---- one output

-- an output, as its message states it
pub record StatedOutput : Type 0 where
  pub name : List ℕ
  -- there is an `action`
  pub has_action : Bool
  -- `sensitive` is `true`
  pub is_sensitive : Bool
  -- `type` and `value`, as JSON texts; none if they are missing
  pub type_json : Option (List ℕ)
  pub value_json : Option (List ℕ)

-- of an output, the type and the value are read as JSON texts
abbrev pub is_json : (name : List ℕ) → Bool
is_json name = bytes_eq name (codes "type") || bytes_eq name (codes "value")

abbrev pub is_true : Option Data → Bool
is_true d = unwrap_or (d >>= as_bool) false

-- the output of that name, by its tree; any value but an object has no members
abbrev pub output_named : (name : List ℕ) → Data → StatedOutput
output_named name d = record {
  name = name;
  has_action = is_some (member_of (codes "action") d);
  is_sensitive = is_true (get (codes "sensitive") d);
  type_json = get (codes "type") d >>= as_str;
  value_json = get (codes "value") d >>= as_str;
}

-- ---- the outputs of a message

-- An output goes behind the others. One whose name stands there already takes that one's place.
abbrev pub put_output : StatedOutput → List StatedOutput → List StatedOutput
put_output output [] = output ∷ []
put_output output (other ∷ others) =
    if bytes_eq output.name other.name then output ∷ others else other ∷ put_output output others

-- outputs in their order, after those that were found
abbrev pub outputs_in : json.Members → (found : List StatedOutput) → Option (List StatedOutput)
outputs_in json.no_members found = Some found
outputs_in (json.member name j ms) found =
    option_and_then (λ d. outputs_in ms (put_output (output_named name d) found)) (mixed_tree is_json j)

-- the outputs of an object; none of any other value
abbrev pub outputs_of_value : json.Json → Option (List StatedOutput)
outputs_of_value json.null = None
outputs_of_value (json.boolean b) = None
outputs_of_value (json.number s) = None
outputs_of_value (json.string s) = None
outputs_of_value (json.array js) = None
outputs_of_value (json.object ms) = outputs_in ms []

abbrev pub outputs_of_text : List ℕ → Option (List StatedOutput)
outputs_of_text text =
    option_and_then outputs_of_value (option_and_then (λ p. if_last p.0 p.1) (value max_depth (tokens text)))

-- ---- the outputs that a script can repeat

-- the JSON text; none if it is `null`
abbrev pub unless_null_json : List ℕ → Option (List ℕ)
unless_null_json json = if bytes_eq json (codes "null") then None else Some json

abbrev pub with_type : StatedOutput → (kind : List ℕ) → Output
with_type stated kind = record {
  name = stated.name;
  is_sensitive = stated.is_sensitive;
  type_json = kind;
  value_json = stated.value_json;
}

-- the output, if it has a type and no action
abbrev pub output_of : StatedOutput → Option Output
output_of stated =
    if stated.has_action then None else option_map (with_type stated) (stated.type_json >>= unless_null_json)

-- these outputs of a message's text, in their order; no outputs if it has no object `outputs`
abbrev pub outputs_of : (text : List ℕ) → List Output
outputs_of text = filter_map output_of (unwrap_or (member_json (codes "outputs") text >>= outputs_of_text) [])
