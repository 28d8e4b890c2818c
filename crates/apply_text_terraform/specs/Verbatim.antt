-- The members of a diagnostic that are JSON texts, copied verbatim into its message.
use Rattle.std.specs.Prelude.{ℕ, List, [], ◌∷◌, ◌++◌, codes, Bool, true, false, Option, Some, None}
use Rattle.json.specs.Print.{quoted}
use Rattle.serde_json.specs.Data.{Data, object, Members, no_members, member}
use Rattle.serde_json.specs.Written.{comma_if, compact_text}
use Rattle.apply_model.specs.declared.script.diag.Diag.{Diag}
use Rattle.apply_text.specs.Lines.{message_object}
use Rattle.apply_text.specs.Message.{Message}

-- a member after others: its comma, its name and its colon, then the text; nothing where there is
-- no text
abbrev pub verbatim_member : (name : List ℕ) → Option (List ℕ) → List ℕ
verbatim_member name None = []
verbatim_member name (Some text) = name ++ text

abbrev pub verbatim_members : Diag → List ℕ
verbatim_members diag = verbatim_member (codes ",\"range\":") diag.range ++ verbatim_member (codes ",\"snippet\":") diag.snippet

-- ---- objects without their closing bracket

-- members as text, without the bracket after them
abbrev pub unclosed_members : (later : Bool) → Members → List ℕ
unclosed_members later no_members = []
unclosed_members later (member name d ms) = comma_if later ++ (quoted name ++ 58 ∷ (compact_text d ++ unclosed_members true ms))

-- an object as text, without its closing bracket
abbrev pub unclosed_object : Data → List ℕ
unclosed_object (object ms) = 123 ∷ unclosed_members false ms
unclosed_object d = compact_text d

-- ---- a message about a diagnostic

-- the message up to the end of its diagnostic
abbrev pub diagnostic_front : (timestamp : List ℕ) → Message → List ℕ
diagnostic_front timestamp message =
    unclosed_object (message_object message.level message.text timestamp no_members)
    ++ (codes ",\"diagnostic\":" ++ unclosed_object message.body)

-- the end of the message
abbrev pub diagnostic_end : List ℕ
diagnostic_end = codes "},\"type\":\"diagnostic\"}"

-- the message with verbatim members, which come last in its diagnostic
abbrev pub diagnostic_with : (timestamp : List ℕ) → Message → (verbatim : List ℕ) → List ℕ
diagnostic_with timestamp message verbatim = diagnostic_front timestamp message ++ (verbatim ++ diagnostic_end)
