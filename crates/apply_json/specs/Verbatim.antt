-- Mixed trees: trees in which members of some names hold raw JSON text in place of their value.
-- Raw text has no blanks, members in their order, numbers as written, and the shortest escapes
-- (RFC 8259). The predicate `is_verbatim` names these members.
use Rattle.std.specs.Prelude.{◌≡◌, ℕ, ◌-◌, ◌<◌, ◌≤◌, List, ◌∷◌, length, Bool, false, if◌then◌else◌, Option, Some, None, option_map, option_and_then}
use Rattle.std.specs.Str.{is_utf8}
use Rattle.json.specs.Json as json
use Rattle.json.specs.Json.{items, members, parse_map, value}
use Rattle.json.specs.Lex.{tokens}
use Rattle.json.specs.Print.{print}
use Rattle.json.specs.Token.{Token}
use Rattle.json.specs.Tree.{json_tokens}
use Rattle.serde_json.specs.Data.{Data, null, boolean, number, string, array, object, Items, no_items, item, Members, no_members, put}
use Rattle.serde_json.specs.Read.{converted, max_depth, number_of, of_json}
use Rattle.apply_json.specs.declared.value_start.ValueStart.{ValueStart}
use Rattle.apply_json.specs.declared.value_start.ValueStart.TheVariants as value_start
use Rattle.apply_json.specs.declared.json_fault.JsonFault.{JsonFault}
use Rattle.apply_json.specs.declared.json_fault.JsonFault.TheVariants.{TooLarge, NotJson, Memory}
use Rattle.apply_json.specs.Tokens.{StartsValue, IsNoValue}

-- the raw JSON text of a value
abbrev pub verbatim : json.Json → List ℕ
verbatim j = print (json_tokens j)

-- the raw text as a string; none if a number in the value is out of range
abbrev pub as_verbatim : json.Json → Option Data
as_verbatim j = option_map (λ tree. string (verbatim j)) (of_json j)

-- The mixed tree of a value. Members are put one after another, so the last value of a key stays.
abbrev mutual
  pub mixed_tree : (is_verbatim : List ℕ → Bool) → json.Json → Option Data
  mixed_tree is_verbatim json.null = Some null
  mixed_tree is_verbatim (json.boolean b) = Some (boolean b)
  mixed_tree is_verbatim (json.number s) = option_map number (number_of s)
  mixed_tree is_verbatim (json.string s) = Some (string s)
  mixed_tree is_verbatim (json.array js) = option_map array (mixed_items is_verbatim js)
  mixed_tree is_verbatim (json.object ms) = option_map object (mixed_members is_verbatim ms no_members)

  pub mixed_items : (is_verbatim : List ℕ → Bool) → json.Items → Option Items
  mixed_items is_verbatim json.no_items = Some no_items
  mixed_items is_verbatim (json.item j js) = option_and_then (λ d. option_map (item d) (mixed_items is_verbatim js)) (mixed_tree is_verbatim j)

  pub mixed_members : (is_verbatim : List ℕ → Bool) → json.Members → (found : Members) → Option Members
  mixed_members is_verbatim json.no_members found = Some found
  mixed_members is_verbatim (json.member k j ms) found =
      option_and_then (λ d. mixed_members is_verbatim ms (put k d found)) (if is_verbatim k then as_verbatim j else mixed_tree is_verbatim j)

-- no member is verbatim: the mixed tree is the ordinary tree
abbrev pub none_verbatim : (name : List ℕ) → Bool
none_verbatim name = false

-- the mixed tree of the value of the member `name`
abbrev pub mixed_member : (is_verbatim : List ℕ → Bool) → (name : List ℕ) → json.Json → Option Data
mixed_member is_verbatim name j = if is_verbatim name then as_verbatim j else mixed_tree is_verbatim j

-- the mixed tree of a text; none if the text is not JSON or nests more than 127 deep
abbrev pub mixed_tree_of_text : (is_verbatim : List ℕ → Bool) → List ℕ → Option Data
mixed_tree_of_text is_verbatim text = option_and_then (mixed_tree is_verbatim) (option_and_then (λ p. json.if_last p.0 p.1) (value max_depth (tokens text)))

-- the mixed tree of bytes; none if the bytes are not UTF-8 or have no mixed tree as text
abbrev pub mixed_tree_of : (is_verbatim : List ℕ → Bool) → List ℕ → Option Data
mixed_tree_of is_verbatim bytes = if is_utf8 bytes then mixed_tree_of_text is_verbatim bytes else None

-- the bytes are too many, or have no mixed tree;
-- `Memory` states only that the bytes are not too many
abbrev pub IsNoMixedTree : (is_verbatim : List ℕ → Bool) → (most : ℕ) → JsonFault → List ℕ → Type 0
IsNoMixedTree is_verbatim most TooLarge bytes = most < length bytes
IsNoMixedTree is_verbatim most NotJson bytes = (length bytes ≤ most) × (mixed_tree_of is_verbatim bytes ≡ None)
IsNoMixedTree is_verbatim most Memory bytes = length bytes ≤ most

-- ---- what is read of a list of tokens

-- the tokens `before` are a value of at most this depth, then `rest`; `d` is its mixed tree
abbrev pub IsMixedRead : (is_verbatim : List ℕ → Bool) → (depth : ℕ) → (before : List Token) → Data → (rest : List Token) → Type 0
IsMixedRead is_verbatim depth before d rest = converted (mixed_tree is_verbatim) (value depth before) ≡ Some (d, rest)

-- the tokens `before` are the value of the member `name`, then `rest`; `d` is its mixed tree
abbrev pub IsMixedMember : (is_verbatim : List ℕ → Bool) → (name : List ℕ) → (depth : ℕ) → (before : List Token) → Data → (rest : List Token) → Type 0
IsMixedMember is_verbatim name depth before d rest = converted (mixed_member is_verbatim name) (value depth before) ≡ Some (d, rest)

-- the tokens `before` are a value, then `rest`; `text` is its raw text
abbrev pub IsVerbatim : (depth : ℕ) → (before : List Token) → (text : List ℕ) → (rest : List Token) → Type 0
IsVerbatim depth before text rest = converted as_verbatim (value depth before) ≡ Some (string text, rest)

-- the tokens `before` are the items of an array with its `]`, then `rest`
abbrev pub AreMixedItems : (is_verbatim : List ℕ → Bool) → (depth : ℕ) → (before : List Token) → Items → (rest : List Token) → Type 0
AreMixedItems is_verbatim depth before ds rest = converted (mixed_items is_verbatim) (items (value depth) (length before) before) ≡ Some (ds, rest)

abbrev pub AreNoMixedItems : (is_verbatim : List ℕ → Bool) → (depth : ℕ) → List Token → Type 0
AreNoMixedItems is_verbatim depth before = converted (mixed_items is_verbatim) (items (value depth) (length before) before) ≡ None

-- the tokens `before` are the members of an object with its `}`, then `rest`
abbrev pub AreMixedMembers : (is_verbatim : List ℕ → Bool) → (depth : ℕ) → (before : List Token) → Members → (rest : List Token) → Type 0
AreMixedMembers is_verbatim depth before ms rest =
    converted (λ found. mixed_members is_verbatim found no_members) (members (value depth) (length before) before) ≡ Some (ms, rest)

abbrev pub AreNoMixedMembers : (is_verbatim : List ℕ → Bool) → (depth : ℕ) → List Token → Type 0
AreNoMixedMembers is_verbatim depth before =
    converted (λ found. mixed_members is_verbatim found no_members) (members (value depth) (length before) before) ≡ None

-- after `[` or `{`, the value is the array or object of the items or members that follow
abbrev pub OpensValue : ValueStart → (depth : ℕ) → (before : List Token) → (rest : List Token) → Type 0
OpensValue (value_start.Shallow s) depth before rest = Unit {0}
OpensValue value_start.Array depth before rest = value depth before ≡ parse_map json.array (items (value (depth - 1)) (length rest) rest)
OpensValue value_start.Object depth before rest = value depth before ≡ parse_map json.object (members (value (depth - 1)) (length rest) rest)

-- a value that starts with this token starts so, whatever follows
abbrev pub TokenStarts : ValueStart → (depth : ℕ) → Token → Type 0
TokenStarts value_start depth t = (rest : List Token) → StartsValue value_start depth (t ∷ rest) rest × OpensValue value_start depth (t ∷ rest) rest

-- no value starts with this token
abbrev pub TokenStartsNone : (depth : ℕ) → Token → Type 0
TokenStartsNone depth t = (rest : List Token) → IsNoValue depth (t ∷ rest)
