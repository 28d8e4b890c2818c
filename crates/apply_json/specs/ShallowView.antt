-- Values without the contents of arrays and objects, and the contents that contracts name.
use Rattle.std.specs.Prelude.{ℕ, List, Bool, Option, Some, None, ⊤}
use Rattle.serde_json.specs.Data as tree
use Rattle.serde_json.specs.Data.{Data, Items, no_items, Members, no_members, Num}
use Rattle.serde_json.specs.Find.{as_u64}
use Rattle.serde_json.specs.View.{number_view}
use Rattle.apply_json.specs.declared.array_presence.ArrayPresence.{ArrayPresence}
use Rattle.apply_json.specs.declared.array_presence.ArrayPresence.TheVariants as kind
use Rattle.apply_json.specs.declared.shallow.Shallow.{Shallow}
use Rattle.apply_json.specs.declared.shallow.Shallow.TheVariants as shallow

pub data ShallowView : Type 0 where
  absent : ShallowView
  truth : Bool → ShallowView
  number : Num → ShallowView
  text : List ℕ → ShallowView
  an_array : ShallowView
  an_object : ShallowView

-- a value without its contents; `null` counts as absent
abbrev pub shallow_of : Option Data → ShallowView
shallow_of None = absent
shallow_of (Some tree.null) = absent
shallow_of (Some (tree.boolean b)) = truth b
shallow_of (Some (tree.number n)) = number n
shallow_of (Some (tree.string s)) = text s
shallow_of (Some (tree.array ds)) = an_array
shallow_of (Some (tree.object ms)) = an_object

abbrev pub shallow_view : Shallow → ShallowView
shallow_view shallow.Absent = absent
shallow_view (shallow.Bool b) = truth b
shallow_view (shallow.Number n) = number (number_view n)
shallow_view (shallow.Text s) = text s.now
shallow_view shallow.Array = an_array
shallow_view shallow.Object = an_object

-- the text; none for any other value
abbrev pub shallow_text : ShallowView → Option (List ℕ)
shallow_text absent = None
shallow_text (truth b) = None
shallow_text (number n) = None
shallow_text (text s) = Some s
shallow_text an_array = None
shallow_text an_object = None

-- the text, or `missing` if the value is absent; none for a value of another type
abbrev pub shallow_text_or : List ℕ → ShallowView → Option (List ℕ)
shallow_text_or missing absent = Some missing
shallow_text_or missing (truth b) = None
shallow_text_or missing (number n) = None
shallow_text_or missing (text s) = Some s
shallow_text_or missing an_array = None
shallow_text_or missing an_object = None

-- the whole number that fits 64 bits; none for any other value
abbrev pub shallow_whole : ShallowView → Option ℕ
shallow_whole absent = None
shallow_whole (truth b) = None
shallow_whole (number n) = as_u64 n
shallow_whole (text s) = None
shallow_whole an_array = None
shallow_whole an_object = None

-- the members of an object; any other value has none
abbrev pub members_in : Data → Members
members_in tree.null = no_members
members_in (tree.boolean b) = no_members
members_in (tree.number n) = no_members
members_in (tree.string s) = no_members
members_in (tree.array ds) = no_members
members_in (tree.object ms) = ms

-- the items of an array; any other value has none
abbrev pub items_in : Data → Items
items_in tree.null = no_items
items_in (tree.boolean b) = no_items
items_in (tree.number n) = no_items
items_in (tree.string s) = no_items
items_in (tree.array ds) = ds
items_in (tree.object ms) = no_items

-- neither an array nor an object
abbrev pub IsScalar : Data → Type 0
IsScalar tree.null = ⊤
IsScalar (tree.boolean b) = ⊤
IsScalar (tree.number n) = ⊤
IsScalar (tree.string s) = ⊤
IsScalar (tree.array ds) = ⊥
IsScalar (tree.object ms) = ⊥

-- whether a value is an array, absent, or something else
abbrev pub array_presence : Data → ArrayPresence
array_presence tree.null = kind.Absent
array_presence (tree.boolean b) = kind.Other
array_presence (tree.number n) = kind.Other
array_presence (tree.string s) = kind.Other
array_presence (tree.array ds) = kind.List
array_presence (tree.object ms) = kind.Other
