-- Parts of JSON texts (RFC 8259).
use Rattle.std.specs.Prelude.{ℕ, List, [], ◌∷◌, ◌++◌, codes, Bool, true, if◌then◌else◌, Option, Some, None}
use Rattle.serde_json.specs.Data.{string}
use Rattle.serde_json.specs.Written.{compact_text}

-- A string, in the shortest escapes.
abbrev pub json_text : List ℕ → List ℕ
json_text text = compact_text (string text)

abbrev pub flag_text : Bool → List ℕ
flag_text flag = if flag then codes "true" else codes "false"

-- ---- members that may be absent, by their name and what stands before it

-- A text as a string.
abbrev pub text_member : (front : List ℕ) → Option (List ℕ) → List ℕ
text_member front None = []
text_member front (Some text) = front ++ json_text text

-- A JSON text as it is.
abbrev pub raw_member : (front : List ℕ) → Option (List ℕ) → List ℕ
raw_member front None = []
raw_member front (Some json) = front ++ json

-- ---- lists

-- What stands before an item of a list: a comma, if another item stands before it.
abbrev pub opening : (begin : List ℕ) → (later : Bool) → List ℕ
opening begin later = if later then codes "," else begin

-- What stands after the items of a list: nothing, if there are none.
abbrev pub closing : (end : List ℕ) → (later : Bool) → List ℕ
closing end later = if later then end else []

-- A list of items with commas between them, and nothing if there are none. `later` is whether an
-- item stands before these.
abbrev pub list_text : (begin end : List ℕ) → (later : Bool) → List (List ℕ) → List ℕ
list_text begin end later [] = closing end later
list_text begin end later (item ∷ items) = opening begin later ++ (item ++ list_text begin end true items)
