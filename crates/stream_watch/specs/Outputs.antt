-- The outputs of a message (Machine-Readable UI, "Message Types").
use Rattle.std.specs.Prelude.{ℕ, List, [], ◌∷◌, codes, Bool, false, if◌then◌else◌, Option, Some, None, option_map, option_and_then, unwrap_or, string_bytes}
use Rattle.std.specs.Str.{bytes_eq}
use Rattle.json.specs.Json as json
use Rattle.json.specs.Json.{if_last, value}
use Rattle.json.specs.Lex.{tokens}
use Rattle.serde_json.specs.Data.{Data}
use Rattle.serde_json.specs.Find.{as_bool, as_str, get}
use Rattle.serde_json.specs.Read.{max_depth}
use Rattle.apply_json.specs.Tree.{◌>>=◌, text_of}
use Rattle.apply_json.specs.Verbatim.{mixed_tree, mixed_tree_of}
use Rattle.stream_watch.specs.declared.message.outputs.output.Output.{Output}
use Rattle.stream_watch.specs.Reading.{text_in}

-- an output, as its message states it
pub record OutputView : Type 0 where
  pub name : List ℕ
  -- the text `action`
  pub action : Option (List ℕ)
  -- `sensitive` is `true`
  pub is_sensitive : Bool
  -- `value`, as JSON text; none if it is missing
  pub value : Option (List ℕ)

abbrev pub output_view : Output → OutputView
output_view output = record {
  name = string_bytes output.name;
  action = option_map string_bytes output.action;
  is_sensitive = output.is_sensitive;
  value = option_map string_bytes output.value;
}

-- ---- one output

-- of an output, the value is read as JSON text
abbrev pub is_value : (name : List ℕ) → Bool
is_value name = bytes_eq name (codes "value")

abbrev pub is_true : Option Data → Bool
is_true d = unwrap_or (d >>= as_bool) false

-- the output of that name, by its tree; any value but an object has no members
abbrev pub output_named : (name : List ℕ) → Data → OutputView
output_named name d = record {
  name = name;
  action = text_of (codes "action") d;
  is_sensitive = is_true (get (codes "sensitive") d);
  value = get (codes "value") d >>= as_str;
}

-- ---- the outputs of a message

-- An output goes behind the others. One whose name stands there already takes that one's place.
abbrev pub put_output : OutputView → List OutputView → List OutputView
put_output output [] = output ∷ []
put_output output (other ∷ others) =
    if bytes_eq output.name other.name then output ∷ others else other ∷ put_output output others

-- outputs in their order, after those that were found
abbrev pub outputs_in : json.Members → (found : List OutputView) → Option (List OutputView)
outputs_in json.no_members found = Some found
outputs_in (json.member name j ms) found =
    option_and_then (λ d. outputs_in ms (put_output (output_named name d) found)) (mixed_tree is_value j)

-- the outputs of an object; none of any other value
abbrev pub outputs_of_value : json.Json → Option (List OutputView)
outputs_of_value json.null = None
outputs_of_value (json.boolean b) = None
outputs_of_value (json.number s) = None
outputs_of_value (json.string s) = None
outputs_of_value (json.array js) = None
outputs_of_value (json.object ms) = outputs_in ms []

abbrev pub outputs_of_text : List ℕ → Option (List OutputView)
outputs_of_text text =
    option_and_then outputs_of_value (option_and_then (λ p. if_last p.0 p.1) (value max_depth (tokens text)))

-- the outputs of a message are read as one JSON text first
abbrev pub is_outputs : (name : List ℕ) → Bool
is_outputs name = bytes_eq name (codes "outputs")

-- `outputs` of a message, as JSON text
abbrev pub outputs_text : List ℕ → Option (List ℕ)
outputs_text text = (mixed_tree_of is_outputs text >>= get (codes "outputs")) >>= as_str

-- the outputs of a line's message, in their order; no outputs if it has no object `outputs`
abbrev pub outputs_of : (find : Bool) → (line : List ℕ) → List OutputView
outputs_of find line = unwrap_or ((text_in find line >>= outputs_text) >>= outputs_of_text) []
