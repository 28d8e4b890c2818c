-- Which bytes are the plan, the graph and the stream.
use Rattle.std.specs.Prelude.{◌≡◌, ⊤, ℕ, ◌||◌, List, Bool, false, codes, if◌then◌else◌, Option, None, Some, option_map, string_bytes}
use Rattle.std.specs.Option.{option_map_or}
use Rattle.std.specs.Str.{bytes_eq}
use Rattle.input_files.specs.Inputs.{IsInputOf}
use Rattle.stream_record_cli.specs.declared.command.settings.Settings.{Settings}

-- The name is that of standard input.
abbrev pub is_dash : (name : List ℕ) → Bool
is_dash name = bytes_eq name (codes "-")

abbrev pub is_dash_or_none : (name : Option (List ℕ)) → Bool
is_dash_or_none name = option_map_or is_dash name false

-- The bytes that are left of standard input for the graph: nothing is known of them where the plan
-- is read from there, and then no accepted arguments read the graph from there.
abbrev pub left_by : (name : List ℕ) → (given : Option (List ℕ)) → Option (List ℕ)
left_by name given = if is_dash name then None else given

-- The graph is what was read by its name, if one is named.
abbrev pub IsGraphOf : {File : Type 0} → (remaining : File → Option (List ℕ)) → (given : Option (List ℕ)) → (name : Option (List ℕ)) → Option (List ℕ) → Type 0
IsGraphOf remaining given None None = ⊤
IsGraphOf remaining given None (Some bytes) = ⊥
IsGraphOf remaining given (Some name) None = ⊥
IsGraphOf remaining given (Some name) (Some bytes) = IsInputOf remaining given name bytes

-- The bytes that are left of standard input for the stream: nothing is known of them where the plan
-- or the graph is read from there, and then no accepted arguments read the stream from there.
abbrev pub left_for_stream : Settings → (given : Option (List ℕ)) → Option (List ℕ)
left_for_stream settings given =
    if is_dash (string_bytes settings.plan) || is_dash_or_none (option_map string_bytes settings.graph) then None else given

-- The bytes of the stream: those of a file that was opened, or those of standard input.
abbrev pub IsStreamOf : {File : Type 0} → (remaining : File → Option (List ℕ)) → (given : Option (List ℕ)) → (name : Option (List ℕ)) → Option (List ℕ) → Type 0
IsStreamOf remaining given None stream = stream ≡ given
IsStreamOf {File = File} remaining given (Some name) stream = (file : File) × (stream ≡ remaining file)

-- This holds for the plan and the graph that were read with these settings.
pub record IsOfRead {File : Type 0} (remaining : File → Option (List ℕ)) (settings : Settings) (given : Option (List ℕ))
    (IsSo : List ℕ → Option (List ℕ) → Type 0) : Type 0 where
  pub plan : List ℕ
  pub plan_read : IsInputOf remaining given (string_bytes settings.plan) plan
  pub graph : Option (List ℕ)
  pub graph_read : IsGraphOf remaining (left_by (string_bytes settings.plan) given) (option_map string_bytes settings.graph) graph
  pub so : IsSo plan graph

-- The same with the bytes of the stream, as far as they are known.
pub record IsOfStream {File : Type 0} (remaining : File → Option (List ℕ)) (settings : Settings) (given : Option (List ℕ))
    (IsSo : (stream : Option (List ℕ)) → Type 0) : Type 0 where
  pub stream : Option (List ℕ)
  pub is : IsStreamOf remaining (left_for_stream settings given) (option_map string_bytes settings.file) stream
  pub so : IsSo stream
