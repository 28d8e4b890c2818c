-- Values that are stored as JSON texts. A text has no blanks, and the members in their order.
-- Numbers stand as they were written, and strings in the shortest escapes (RFC 8259).
use Rattle.std.specs.Prelude.{ℕ, List, codes, Bool, true, false, ◌||◌, if◌then◌else◌, Option, Some, None, option_and_then}
use Rattle.std.specs.Option.{option_map_or}
use Rattle.std.specs.Str.{bytes_eq, is_utf8}
use Rattle.json.specs.Json as json
use Rattle.json.specs.Lex.{tokens}
use Rattle.json.specs.Print.{print}
use Rattle.json.specs.Tree.{json_tokens}
use Rattle.serde_json.specs.Data.{Data, string, object, Members, no_members, put}
use Rattle.serde_json.specs.Read.{max_depth}
use Rattle.apply_plan_terraform.specs.declared.texts.part.Part.{Part}
use Rattle.apply_plan_terraform.specs.declared.texts.part.Part.TheVariants.{Plan, State, Values, Script, Diagnostics, Diagnostic, Outputs, Output, OutputChanges, OutputChange, Text}

-- a diagnostic has a member with that name
abbrev pub is_of_diagnostic : List ℕ → Bool
is_of_diagnostic name =
    bytes_eq name (codes "severity") || (bytes_eq name (codes "summary") || (bytes_eq name (codes "detail")
    || (bytes_eq name (codes "address") || (bytes_eq name (codes "range") || bytes_eq name (codes "snippet")))))

-- the part that the member with that name is; nothing where it is skipped
abbrev pub part_named : Part → List ℕ → Option Part
part_named Plan name =
    if bytes_eq name (codes "prior_state") then Some State
    else if bytes_eq name (codes "output_changes") then Some OutputChanges
    else None
part_named State name = if bytes_eq name (codes "values") then Some Values else None
part_named Values name = if bytes_eq name (codes "outputs") then Some Outputs else None
part_named Script name =
    if bytes_eq name (codes "outputs") then Some Outputs
    else if bytes_eq name (codes "diagnostics") then Some Diagnostics
    else None
part_named Diagnostics name = None
part_named Diagnostic name = if is_of_diagnostic name then Some Text else None
part_named Outputs name = Some Output
part_named Output name =
    if bytes_eq name (codes "sensitive") || (bytes_eq name (codes "type") || bytes_eq name (codes "value")) then Some Text else None
part_named OutputChanges name = Some OutputChange
part_named OutputChange name = if bytes_eq name (codes "actions") || bytes_eq name (codes "after_unknown") then Some Text else None
part_named Text name = None

-- any value of the part is stored as JSON text, objects too
abbrev pub is_text : Part → Bool
is_text Plan = false
is_text State = false
is_text Values = false
is_text Script = false
is_text Diagnostics = true
is_text Diagnostic = false
is_text Outputs = false
is_text Output = false
is_text OutputChanges = false
is_text OutputChange = false
is_text Text = true

-- the value as JSON text
abbrev pub text_of : json.Json → List ℕ
text_of j = print (json_tokens j)

-- objects become trees down to the values that are stored as JSON text; any other value becomes its
-- text; of members with the same name the last one counts
abbrev mutual
  pub with_texts : Part → json.Json → Data
  with_texts part json.null = string (text_of json.null)
  with_texts part (json.boolean b) = string (text_of (json.boolean b))
  with_texts part (json.number s) = string (text_of (json.number s))
  with_texts part (json.string s) = string (text_of (json.string s))
  with_texts part (json.array js) = string (text_of (json.array js))
  with_texts part (json.object ms) =
      if is_text part then string (text_of (json.object ms)) else object (members_with_texts part ms no_members)

  -- members go in one after another
  pub members_with_texts : Part → json.Members → (collected : Members) → Members
  members_with_texts part json.no_members collected = collected
  members_with_texts part (json.member name j ms) collected =
      members_with_texts part ms (option_map_or (λ inner. put name (with_texts inner j) collected) (part_named part name) collected)

-- the value of a JSON text; nothing where it is no JSON, or nests more than 127 deep
abbrev pub json_of_text : List ℕ → Option json.Json
json_of_text text = option_and_then (λ p. json.if_last p.0 p.1) (json.value max_depth (tokens text))

-- the value of bytes; nothing where they are no JSON in UTF-8
abbrev pub json_of : List ℕ → Option json.Json
json_of bytes = if is_utf8 bytes then json_of_text bytes else None
