-- A lookup in a legible tree gives a legible value.
use Rattle.std.proofs.Common.{ℕ, List, [], ◌∷◌, IsUtf8, Option, Some, None}
use Rattle.std.specs.Prelude.{IfSome}
use Rattle.std.specs.List.{AllByRecursion}
use Rattle.serde_json.specs.Data.{Data, null, boolean, number, string, array, object, Items, no_items, item, Members, no_members, member}
use Rattle.serde_json.specs.Find.{as_array, as_object, as_str, get}
use Rattle.apply_json.specs.Tree.{items_or_empty, list_of, member_of, non_empty_text_of, text_of, text_or, unless_empty, unless_null}
use Rattle.laws_check.proofs.Given.{next_of}
use Rattle.laws_check.proofs.Legible.{AreLegible, HaveLegible, IsLegible}
use Rattle.laws_check.proofs.MemberLists.{AllMembers, found_in, not_null}

-- the members of a value, where it is an object
members_legible : (ms : Members) → HaveLegible ms → AllMembers (λ k d. IsLegible d) ms
members_legible no_members h = tt
members_legible (member k d ms) h = (h.0, members_legible ms h.1)

object_legible : (d : Data) → IsLegible d → IfSome (as_object d) (AllMembers (λ k d. IsLegible d))
object_legible null h = tt
object_legible (boolean b) h = tt
object_legible (number n) h = tt
object_legible (string s) h = tt
object_legible (array ds) h = tt
object_legible (object ms) h = members_legible ms h

pub member_legible : (name : List ℕ) (d : Data) → IsLegible d → IfSome (member_of name d) IsLegible
member_legible name d h = next_of IsLegible IsLegible (get name d) unless_null (found_in (λ k d. IsLegible d) name d (object_legible d h)) (not_null IsLegible)

-- ---- texts

pub str_utf8 : (d : Data) → IsLegible d → IfSome (as_str d) IsUtf8
str_utf8 null h = tt
str_utf8 (boolean b) h = tt
str_utf8 (number n) h = tt
str_utf8 (string s) h = h
str_utf8 (array ds) h = tt
str_utf8 (object ms) h = tt

pub filled_utf8 : (text : List ℕ) → IsUtf8 text → IfSome (unless_empty text) IsUtf8
filled_utf8 [] h = tt
filled_utf8 (byte ∷ bytes) h = h

pub text_utf8 : (name : List ℕ) (d : Data) → IsLegible d → IfSome (text_of name d) IsUtf8
text_utf8 name d h = next_of IsLegible IsUtf8 (member_of name d) as_str (member_legible name d h) str_utf8

pub non_empty_utf8 : (name : List ℕ) (d : Data) → IsLegible d → IfSome (non_empty_text_of name d) IsUtf8
non_empty_utf8 name d h = next_of IsUtf8 IsUtf8 (text_of name d) unless_empty (text_utf8 name d h) filled_utf8

pub text_or_utf8 : (absent : List ℕ) (located : Option Data) → IsUtf8 absent → IfSome located IsLegible → IfSome (text_or absent located) IsUtf8
text_or_utf8 absent None text h = text
text_or_utf8 absent (Some d) text h = str_utf8 d h

-- ---- arrays

pub array_legible : (d : Data) → IsLegible d → IfSome (as_array d) AreLegible
array_legible null h = tt
array_legible (boolean b) h = tt
array_legible (number n) h = tt
array_legible (string s) h = tt
array_legible (array ds) h = h
array_legible (object ms) h = tt

pub items_legible : (located : Option Data) → IfSome located IsLegible → IfSome (items_or_empty located) AreLegible
items_legible None h = tt
items_legible (Some d) h = array_legible d h

pub list_legible : (ds : Items) → AreLegible ds → AllByRecursion IsLegible (list_of ds)
list_legible no_items h = tt
list_legible (item d ds) h = (h.0, list_legible ds h.1)
