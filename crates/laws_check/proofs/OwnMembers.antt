-- In the tree of a script each verbatim member is the text of a value.
use Rattle.std.proofs.Common.{◌≡◌, ℕ, ◌≤◌, List, IsUtf8, cond, Bool, true, false, Option, Some, None, option_map, refl, sym, ◌∙◌, subst, arith}
use Rattle.std.specs.Prelude.{⊤, IfSome, codes, option_and_then}
use Rattle.std.specs.List.{AllByRecursion}
use Rattle.std.specs.Str.{bytes_eq, is_utf8}
use Rattle.std.proofs.lemmas.Str.{IsUtf8-from_is_utf8}
use Rattle.json.specs.Json as json
use Rattle.json.specs.Json.{Json}
use Rattle.json.specs.Tree.{HasNumbers, ItemsHaveNumbers, MembersHaveNumbers, depth, items_depth, members_depth}
use Rattle.serde_json.specs.Data.{Data, null, boolean, number, string, array, object, Items, no_items, item, Members, no_members, member, put}
use Rattle.serde_json.specs.Find.{as_array, as_object, as_str, get}
use Rattle.serde_json.specs.Read.{number_of, of_json}
use Rattle.apply_json.specs.Verbatim.{as_verbatim, mixed_tree, mixed_items, mixed_members, mixed_tree_of, verbatim}
use Rattle.apply_json.specs.Tree.{◌>>=◌, items_or_empty, list_of, member_of, unless_null}
use Rattle.apply_plan_terraform.specs.Texts.{json_of_text}
use Rattle.apply_plan.specs.Script.Entry.{is_verbatim_name, is_object_text, object_or_none, object_text}
use Rattle.laws_check.specs.FormTexts.{IsValueText}
use Rattle.laws_check.proofs.Given.{any_given, both_given, gone_on, mapped, next_of}
use Rattle.laws_check.proofs.VerbatimValues.{raw_texts, of_text}
use Rattle.laws_check.proofs.Legible.{AreClear, AreLegible, HaveClear, IsClear, IsLegible, verbatim_tree_legible}
use Rattle.laws_check.proofs.LookUps.{array_legible, member_legible}
use Rattle.laws_check.proofs.MemberLists.{AllMembers, found_in, not_null, put_one, weaker}

-- the value is the text of one
abbrev pub IsVerbatimString : Data → Type 0
IsVerbatimString d = (text : List ℕ) × (d ≡ string text) × IsValueText text

abbrev mutual
  pub HasOwn : Data → Type 0
  HasOwn null = ⊤
  HasOwn (boolean b) = ⊤
  HasOwn (number n) = ⊤
  HasOwn (string s) = ⊤
  HasOwn (array ds) = ItemsOwn ds
  HasOwn (object ms) = MembersOwn ms

  pub ItemsOwn : Items → Type 0
  ItemsOwn no_items = ⊤
  ItemsOwn (item d ds) = HasOwn d × ItemsOwn ds

  pub MembersOwn : Members → Type 0
  MembersOwn no_members = ⊤
  MembersOwn (member k d ms) = (is_verbatim_name k ≡ true → IsVerbatimString d) × HasOwn d × MembersOwn ms

-- a member of that name
abbrev OwnAt : List ℕ → Data → Type 0
OwnAt k d = (is_verbatim_name k ≡ true → IsVerbatimString d) × HasOwn d

each_own : (ms : Members) → MembersOwn ms → AllMembers OwnAt ms
each_own no_members own = tt
each_own (member k d ms) own = ((own.0, own.1), each_own ms own.2)

own_each : (ms : Members) → AllMembers OwnAt ms → MembersOwn ms
own_each no_members own = tt
own_each (member k d ms) own = (own.0.0, own.0.1, own_each ms own.1)

put_own : (k : List ℕ) (d : Data) (ms : Members) → OwnAt k d → MembersOwn ms → MembersOwn (put k d ms)
put_own k d ms one others = own_each (put k d ms) (put_one OwnAt k d ms one (each_own ms others))

-- ---- a value whose members do not nest too deep to be verbatim

own_at : (k : List ℕ) (v : Json) → IsClear v → HasNumbers v → depth v ≤ 124 → IfSome (mixed_tree is_verbatim_name v) HasOwn → IfSome (cond (is_verbatim_name k) (as_verbatim v) (mixed_tree is_verbatim_name v)) (OwnAt k)
own_at k v clear numbers shallow own = of_test (is_verbatim_name k) refl
  where
    of_tree : (o : Option Data) → of_json v ≡ o → IfSome (option_map (λ tree. string (verbatim v)) o) (OwnAt k)
    of_tree None is = tt
    of_tree (Some tree) is = ((λ e. (verbatim v, refl, raw_texts 124 v (omega arith) (record { clear = clear; numbers = numbers; shallow = shallow; tree = (tree, is) }))), tt)

    plain : (o : Option Data) → is_verbatim_name k ≡ false → IfSome o HasOwn → IfSome o (OwnAt k)
    plain None not h = tt
    plain (Some d) not h = ((λ e. absurd (let never : true ≡ false = sym e ∙ not in cc)), h)

    of_test : (b : Bool) → is_verbatim_name k ≡ b → IfSome (cond b (as_verbatim v) (mixed_tree is_verbatim_name v)) (OwnAt k)
    of_test true is = of_tree (of_json v) refl
    of_test false is = plain (mixed_tree is_verbatim_name v) is own

mutual
  value_own : (v : Json) → IsClear v → HasNumbers v → depth v ≤ 125 → IfSome (mixed_tree is_verbatim_name v) HasOwn
  value_own json.null clear numbers shallow = tt
  value_own (json.boolean b) clear numbers shallow = tt
  value_own (json.number s) clear numbers shallow = mapped (λ _. Unit {0}) HasOwn number (number_of s) (λ n u. tt) (any_given (number_of s))
  value_own (json.string s) clear numbers shallow = tt
  value_own (json.array js) clear numbers shallow = mapped ItemsOwn HasOwn array (mixed_items is_verbatim_name js) (λ ds own. own) (items_own js clear numbers (omega (arith, shallow)))
  value_own (json.object ms) clear numbers shallow = mapped MembersOwn HasOwn object (mixed_members is_verbatim_name ms no_members) (λ located own. own) (members_own ms no_members clear numbers (omega (arith, shallow)) tt)

  items_own : (js : json.Items) → AreClear js → ItemsHaveNumbers js → items_depth js ≤ 125 → IfSome (mixed_items is_verbatim_name js) ItemsOwn
  items_own json.no_items clear numbers shallow = tt
  items_own (json.item v js) clear numbers shallow =
      gone_on HasOwn ItemsOwn (λ d. option_map (item d) (mixed_items is_verbatim_name js)) (mixed_tree is_verbatim_name v)
      (λ d one. mapped ItemsOwn ItemsOwn (item d) (mixed_items is_verbatim_name js) (λ ds own. (one, own)) (items_own js clear.1 numbers.1 (omega (arith, shallow)))) (value_own v clear.0 numbers.0 (omega (arith, shallow)))

  members_own : (ms : json.Members) (located : Members) → HaveClear ms → MembersHaveNumbers ms → members_depth ms ≤ 124 → MembersOwn located → IfSome (mixed_members is_verbatim_name ms located) MembersOwn
  members_own json.no_members located clear numbers shallow own = own
  members_own (json.member k v ms) located clear numbers shallow own =
      gone_on (OwnAt k) MembersOwn (λ d. mixed_members is_verbatim_name ms (put k d located)) (cond (is_verbatim_name k) (as_verbatim v) (mixed_tree is_verbatim_name v))
      (λ d one. members_own ms (put k d located) clear.2 numbers.1 (omega (arith, shallow)) (put_own k d located one own))
      (own_at k v clear.1 numbers.0 (omega (arith, shallow)) (value_own v clear.1 numbers.0 (omega (arith, shallow))))

-- ---- the whole script, in which arrays are looked into

abbrev ArrayOwn : Data → Type 0
ArrayOwn null = ⊤
ArrayOwn (boolean b) = ⊤
ArrayOwn (number n) = ⊤
ArrayOwn (string s) = ⊤
ArrayOwn (array ds) = ItemsOwn ds
ArrayOwn (object ms) = ⊤

abbrev ArraysOwn : Members → Type 0
ArraysOwn ms = AllMembers (λ k d. ArrayOwn d) ms

abbrev TopOwn : Data → Type 0
TopOwn null = ⊤
TopOwn (boolean b) = ⊤
TopOwn (number n) = ⊤
TopOwn (string s) = ⊤
TopOwn (array ds) = ⊤
TopOwn (object ms) = ArraysOwn ms

array_own : (v : Json) → IsClear v → HasNumbers v → depth v ≤ 126 → IfSome (mixed_tree is_verbatim_name v) ArrayOwn
array_own json.null clear numbers shallow = tt
array_own (json.boolean b) clear numbers shallow = tt
array_own (json.number s) clear numbers shallow = mapped (λ _. Unit {0}) ArrayOwn number (number_of s) (λ n u. tt) (any_given (number_of s))
array_own (json.string s) clear numbers shallow = tt
array_own (json.array js) clear numbers shallow = mapped ItemsOwn ArrayOwn array (mixed_items is_verbatim_name js) (λ ds own. own) (items_own js clear numbers (omega (arith, shallow)))
array_own (json.object ms) clear numbers shallow = mapped (λ _. Unit {0}) ArrayOwn object (mixed_members is_verbatim_name ms no_members) (λ located u. tt) (any_given (mixed_members is_verbatim_name ms no_members))

array_at : (b : Bool) (v : Json) → IfSome (mixed_tree is_verbatim_name v) ArrayOwn → IfSome (cond b (as_verbatim v) (mixed_tree is_verbatim_name v)) ArrayOwn
array_at true v own = mapped (λ _. Unit {0}) ArrayOwn (λ tree. string (verbatim v)) (of_json v) (λ tree u. tt) (any_given (of_json v))
array_at false v own = own

arrays_own : (ms : json.Members) (located : Members) → HaveClear ms → MembersHaveNumbers ms → members_depth ms ≤ 126 → ArraysOwn located → IfSome (mixed_members is_verbatim_name ms located) ArraysOwn
arrays_own json.no_members located clear numbers shallow own = own
arrays_own (json.member k v ms) located clear numbers shallow own =
    gone_on ArrayOwn ArraysOwn (λ d. mixed_members is_verbatim_name ms (put k d located)) (cond (is_verbatim_name k) (as_verbatim v) (mixed_tree is_verbatim_name v))
    (λ d one. arrays_own ms (put k d located) clear.2 numbers.1 (omega (arith, shallow)) (put_one (λ k d. ArrayOwn d) k d located one own))
    (array_at (is_verbatim_name k) v (array_own v clear.1 numbers.0 (omega (arith, shallow))))

top_own : (v : Json) → IsClear v → HasNumbers v → depth v ≤ 127 → IfSome (mixed_tree is_verbatim_name v) TopOwn
top_own json.null clear numbers shallow = tt
top_own (json.boolean b) clear numbers shallow = tt
top_own (json.number s) clear numbers shallow = mapped (λ _. Unit {0}) TopOwn number (number_of s) (λ n u. tt) (any_given (number_of s))
top_own (json.string s) clear numbers shallow = tt
top_own (json.array js) clear numbers shallow = mapped (λ _. Unit {0}) TopOwn array (mixed_items is_verbatim_name js) (λ ds u. tt) (any_given (mixed_items is_verbatim_name js))
top_own (json.object ms) clear numbers shallow = mapped ArraysOwn TopOwn object (mixed_members is_verbatim_name ms no_members) (λ located own. own) (arrays_own ms no_members clear numbers (omega (arith, shallow)) tt)

-- ---- a legible tree, and what stands in it

abbrev pub IsHeld : Data → Type 0
IsHeld d = IsLegible d × HasOwn d

abbrev pub AreHeld : Items → Type 0
AreHeld ds = AreLegible ds × ItemsOwn ds

abbrev pub IsScriptTree : Data → Type 0
IsScriptTree d = IsLegible d × TopOwn d

pub script_tree : (bytes : List ℕ) → IfSome (mixed_tree_of is_verbatim_name bytes) IsScriptTree
script_tree bytes = both_given IsLegible TopOwn (mixed_tree_of is_verbatim_name bytes) (verbatim_tree_legible is_verbatim_name bytes) (of_test (is_utf8 bytes) refl)
  where
    of_value : (o : Option Json) → IsUtf8 bytes → json_of_text bytes ≡ o → IfSome (option_and_then (mixed_tree is_verbatim_name) o) TopOwn
    of_value None utf8 is = tt
    of_value (Some j) utf8 is = let parsed = of_text bytes j utf8 is in top_own j parsed.clear parsed.numbers parsed.shallow

    of_test : (b : Bool) → is_utf8 bytes ≡ b → IfSome (cond b (option_and_then (mixed_tree is_verbatim_name) (json_of_text bytes)) None) TopOwn
    of_test true utf8 = of_value (json_of_text bytes) (IsUtf8-from_is_utf8 bytes utf8) refl
    of_test false other = tt

object_own_members : (d : Data) → HasOwn d → IfSome (as_object d) (AllMembers OwnAt)
object_own_members null own = tt
object_own_members (boolean b) own = tt
object_own_members (number n) own = tt
object_own_members (string s) own = tt
object_own_members (array ds) own = tt
object_own_members (object ms) own = each_own ms own

member_own : (k : List ℕ) (d : Data) → HasOwn d → IfSome (member_of k d) (OwnAt k)
member_own k d own = next_of (OwnAt k) (OwnAt k) (get k d) unless_null (found_in OwnAt k d (object_own_members d own)) (not_null (OwnAt k))

pub member_held : (name : List ℕ) (d : Data) → IsHeld d → IfSome (member_of name d) IsHeld
member_held name d held = both_given IsLegible HasOwn (member_of name d) (member_legible name d held.0) (weaker (OwnAt name) HasOwn (member_of name d) (λ e own. own.1) (member_own name d held.1))

-- an object as a verbatim text
pub object_own : (name : List ℕ) (d : Data) → is_verbatim_name name ≡ true → IsHeld d → IfSome (object_or_none (member_of name d)) (λ text. IfSome text IsValueText)
object_own name d is held = of_member (member_of name d) (weaker (OwnAt name) IsVerbatimString (member_of name d) (λ e own. own.0 is) (member_own name d held.1))
  where
    of_tests : (text : List ℕ) → IsValueText text → (a b : Bool) → IfSome (cond a (Some None) (cond b (Some (Some text)) None)) (λ (text : Option (List ℕ)). IfSome text IsValueText)
    of_tests text raw_texts true b = tt
    of_tests text raw_texts false true = raw_texts
    of_tests text raw_texts false false = tt

    of_member : (located : Option Data) → IfSome located IsVerbatimString → IfSome (object_or_none located) (λ text. IfSome text IsValueText)
    of_member None own = tt
    of_member (Some e) own =
        subst (λ (x : Data). IfSome (as_str x >>= object_text) (λ text. IfSome text IsValueText)) (sym own.1) (of_tests own.0 own.2 (bytes_eq own.0 (codes "null")) (is_object_text own.0))

-- ---- arrays

array_of : (d : Data) → HasOwn d → IfSome (as_array d) ItemsOwn
array_of null own = tt
array_of (boolean b) own = tt
array_of (number n) own = tt
array_of (string s) own = tt
array_of (array ds) own = own
array_of (object ms) own = tt

pub array_held : (d : Data) → IsHeld d → IfSome (as_array d) AreHeld
array_held d held = both_given AreLegible ItemsOwn (as_array d) (array_legible d held.0) (array_of d held.1)

pub items_held : (located : Option Data) → IfSome located IsHeld → IfSome (items_or_empty located) AreHeld
items_held None held = (tt, tt)
items_held (Some d) held = array_held d held

pub list_held : (ds : Items) → AreHeld ds → AllByRecursion IsHeld (list_of ds)
list_held no_items held = tt
list_held (item d ds) held = ((held.0.0, held.1.0), list_held ds (held.0.1, held.1.1))

-- ---- the arrays of a whole script

top_members : (d : Data) → TopOwn d → IfSome (as_object d) ArraysOwn
top_members null own = tt
top_members (boolean b) own = tt
top_members (number n) own = tt
top_members (string s) own = tt
top_members (array ds) own = tt
top_members (object ms) own = own

top_array : (d : Data) → ArrayOwn d → IfSome (unless_null d >>= as_array) ItemsOwn
top_array null own = tt
top_array (boolean b) own = tt
top_array (number n) own = tt
top_array (string s) own = tt
top_array (array ds) own = own
top_array (object ms) own = tt

regroup : (o : Option Data) → IfSome o ArrayOwn → IfSome (o >>= unless_null >>= as_array) ItemsOwn
regroup None own = tt
regroup (Some d) own = top_array d own

-- the elements of an array in it
pub elements_held : (name : List ℕ) (d : Data) → IsScriptTree d → IfSome (member_of name d >>= as_array) AreHeld
elements_held name d tree =
    both_given AreLegible ItemsOwn (member_of name d >>= as_array) (next_of IsLegible AreLegible (member_of name d) as_array (member_legible name d tree.0) array_legible) (regroup (get name d) (found_in (λ k d. ArrayOwn d) name d (top_members d tree.1)))
