-- The tree of a JSON text (RFC 8259), and lookups in it.
use Rattle.std.specs.Prelude.{ℕ, List, [], ◌∷◌, Bool, true, false, if◌then◌else◌, Option, Some, None}
use Rattle.std.specs.Option.{option_map_or}
use Rattle.std.specs.Str.{bytes_eq, is_utf8}
use Rattle.serde_json.specs.Data.{Data, null, boolean, number, string, array, object, Items, no_items, item}
use Rattle.serde_json.specs.Find.{get, as_str, as_array}
use Rattle.serde_json.specs.Read.{read}

infixl 10 ◌>>=◌
abbrev pub ◌>>=◌ : {A B : Type 0} → Option A → (A → Option B) → Option B
None >>= f = None
(Some x) >>= f = f x

-- the tree of the bytes; none if they are not UTF-8, not JSON, or nest more than 127 deep
abbrev pub tree_of : List ℕ → Option Data
tree_of bytes = if is_utf8 bytes then read bytes else None

abbrev pub is_empty : List ℕ → Bool
is_empty [] = true
is_empty (byte ∷ bytes) = false

-- the text; none if it is empty
abbrev pub unless_empty : List ℕ → Option (List ℕ)
unless_empty [] = None
unless_empty (byte ∷ bytes) = Some (byte ∷ bytes)

-- the value; none if it is `null`
abbrev pub unless_null : Data → Option Data
unless_null null = None
unless_null (boolean b) = Some (boolean b)
unless_null (number n) = Some (number n)
unless_null (string s) = Some (string s)
unless_null (array ds) = Some (array ds)
unless_null (object ms) = Some (object ms)

-- the member `name`; `null` counts as absent, and only objects have members
abbrev pub member_of : List ℕ → Data → Option Data
member_of name d = get name d >>= unless_null

-- the member `name`; none if it is not a text
abbrev pub text_of : List ℕ → Data → Option (List ℕ)
text_of name d = member_of name d >>= as_str

-- the member `name`; none if it is not a text or is empty
abbrev pub non_empty_text_of : List ℕ → Data → Option (List ℕ)
non_empty_text_of name d = text_of name d >>= unless_empty

-- the text, or `absent` if there is no value; none for a value of another type
abbrev pub text_or : List ℕ → Option Data → Option (List ℕ)
text_or absent None = Some absent
text_or absent (Some d) = as_str d

-- the items of an array, or no items if there is no value; none for a value of another type
abbrev pub items_or_empty : Option Data → Option Items
items_or_empty None = Some no_items
items_or_empty (Some d) = as_array d

-- items as a list
abbrev pub list_of : Items → List Data
list_of no_items = []
list_of (item d ds) = d ∷ list_of ds

-- whether the value is this text
abbrev pub is_word : List ℕ → Data → Bool
is_word word d = option_map_or (λ text. bytes_eq text word) (as_str d) false
