-- Outputs and their planned changes, with members as JSON texts (JSON Output Format, "Plan
-- Representation", `output_changes`, and "Values Representation", `outputs`).
use Rattle.std.specs.Prelude.{ℕ, List, codes, Bool, true, false, not, ◌&&◌, ◌||◌, Option, Some, None}
use Rattle.std.specs.Option.{is_some, option_map_or, unwrap_or}
use Rattle.std.specs.Str.{bytes_eq}
use Rattle.serde_json.specs.Data.{Data}
use Rattle.serde_json.specs.Find.{as_str, get}
use Rattle.apply_json.specs.Tree.{◌>>=◌}
use Rattle.apply_model.specs.declared.details.output.Output.{Output}

-- a member that is stored as JSON text
abbrev pub text_at : List ℕ → Data → Option (List ℕ)
text_at name d = get name d >>= as_str

abbrev pub text_in : List ℕ → Option Data → Option (List ℕ)
text_in name object = object >>= text_at name

-- a member of an optional object
abbrev pub member_in : List ℕ → Option Data → Option Data
member_in name object = object >>= get name

-- the text, where the value is one
abbrev pub as_text : Option Data → Option (List ℕ)
as_text value = value >>= as_str

abbrev pub equals_word : (word : List ℕ) → Option (List ℕ) → Bool
equals_word word text = option_map_or (λ text. bytes_eq text word) text false

abbrev pub is_null : Option (List ℕ) → Bool
is_null text = equals_word (codes "null") text

-- ---- an output

-- there is a type other than `null`
abbrev pub is_kind : Option (List ℕ) → Bool
is_kind kind = is_some kind && not (is_null kind)

-- the output has a type other than `null`
abbrev pub is_typed : Data → Bool
is_typed output = is_kind (text_at (codes "type") output)

-- `sensitive` is absent, `null`, `true` or `false`
abbrev pub is_flag_or_absent : Option (List ℕ) → Bool
is_flag_or_absent None = true
is_flag_or_absent (Some text) = bytes_eq text (codes "true") || (bytes_eq text (codes "false") || bytes_eq text (codes "null"))

-- the output is an object with a type, and its `sensitive` is a boolean, `null` or absent
abbrev pub is_output : Data → Bool
is_output output = is_typed output && is_flag_or_absent (text_at (codes "sensitive") output)

abbrev pub or_null : Option (List ℕ) → List ℕ
or_null text = unwrap_or text (codes "null")

-- the output with these members
abbrev pub output_with : (name : List ℕ) → (sensitive kind value : Option (List ℕ)) → Output
output_with name sensitive kind value = record {
  name = name;
  sensitive = equals_word (codes "true") sensitive;
  kind = or_null kind;
  value = or_null value;
}

-- the output with that name; an absent value is `null`
abbrev pub output_of : List ℕ → Data → Output
output_of name output =
    output_with name (text_at (codes "sensitive") output) (text_at (codes "type") output) (text_at (codes "value") output)

-- ---- the planned change of an output

-- the planned change of that output
abbrev pub change_of : (changes : Option Data) → List ℕ → Option Data
change_of changes name = member_in name changes

-- the value is unknown before the apply: `after_unknown` is neither absent, `null` nor `false`
abbrev pub is_unknown : Option Data → Bool
is_unknown change =
    let unknown = text_in (codes "after_unknown") change in
    is_some unknown && not (is_null unknown || equals_word (codes "false") unknown)

-- the plan deletes the output
abbrev pub is_deleted : Option Data → Bool
is_deleted change = equals_word (codes "[\"delete\"]") (text_in (codes "actions") change)

-- the plan changes the output; `null` counts as absent
abbrev pub is_changed : Option Data → Bool
is_changed change = is_some change && not (is_null (as_text change))

-- a stream shows the plan's own output: its type is known, its value is known before the apply, and
-- the plan does not delete it
abbrev pub is_written_with : (changes : Option Data) → (name : List ℕ) → (kind : Option (List ℕ)) → Bool
is_written_with changes name kind = is_kind kind && not (is_unknown (change_of changes name) || is_deleted (change_of changes name))

abbrev pub is_written : (changes : Option Data) → List ℕ → Data → Bool
is_written changes name output = is_written_with changes name (text_at (codes "type") output)
