-- JSON texts, and the mixed trees that the reader of a script makes of them.
use Rattle.std.proofs.Common.{◌≡◌, ℕ, suc, ◌≤◌, ◌<◌, ◌^◌, List, [], ◌∷◌, ◌++◌, IsUtf8, Bool, true, false, Option, Some, None, cond, decimal, option_map, option_and_then, refl, ap, ap₂, ◌∙◌, append_assoc, arith}
use Rattle.std.specs.Prelude.{codes}
use Rattle.std.proofs.lemmas.Fmt.{IsAscii-decimal}
use Rattle.std.proofs.lemmas.Str.{IsUtf8-append, IsUtf8-from_ascii}
use Rattle.json.specs.Json as json
use Rattle.json.specs.Json.{Json}
use Rattle.json.specs.Print.{quoted}
use Rattle.json.specs.Tree.{HasNumbers, ItemsHaveNumbers, MembersHaveNumbers, depth, items_depth, members_depth}
use Rattle.json.proofs.Printed.Decimals.{IsNumber-decimal}
use Rattle.json.proofs.Printed.Utf8.{IsUtf8-are_ascii, IsUtf8-boolean, IsUtf8-quoted}
use Rattle.serde_json.specs.Data.{Data, boolean, number, unsigned, string, array, object, item, Members, no_members, put}
use Rattle.serde_json.proofs.Numbers.{number_of-decimal}
use Rattle.apply_json.specs.Verbatim.{mixed_items, mixed_member, mixed_members, mixed_tree}
use Rattle.apply_plan.specs.ListReading.{items_of}
use Rattle.apply_plan.specs.Script.Entry.{is_verbatim_name}
use Rattle.stream_record.specs.Parts.{json_text}
use Rattle.laws_record.proofs.ValueTexts.{items_text, members_text, value_text}

-- the text is that of a value which nests at most so deep, and `tree` makes the data of it
pub record IsReadBy (tree : Json → Option Data) (n : ℕ) (text : List ℕ) (d : Data) : Type 0 where
  pub json : Json
  pub text_is : text ≡ value_text json
  pub utf8 : IsUtf8 text
  pub numbers : HasNumbers json
  pub shallow : depth json ≤ n
  pub tree_is : tree json ≡ Some d

abbrev pub IsValue : (n : ℕ) → List ℕ → Data → Type 0
IsValue n text d = IsReadBy (mixed_tree is_verbatim_name) n text d

abbrev pub IsMember : (name : List ℕ) → (n : ℕ) → List ℕ → Data → Type 0
IsMember name n text d = IsReadBy (mixed_member is_verbatim_name name) n text d

-- ---- members

-- a member by its name: its value, or none where the member is absent
abbrev pub Field : Type 0
Field = List ℕ × Option Data

abbrev pub put_field : List ℕ → Option Data → Members → Members
put_field name None located = located
put_field name (Some d) located = put name d located

abbrev pub put_all : List Field → Members → Members
put_all [] located = located
put_all (field ∷ fields) located = put_all fields (put_field field.0 field.1 located)

-- an object with these members
abbrev pub object_with : List Field → Data
object_with fields = object (put_all fields no_members)

-- the text is that of members after another one, with the bracket
pub record AreMembers (n : ℕ) (text : List ℕ) (fields : List Field) : Type 0 where
  pub members : json.Members
  pub text_is : text ≡ members_text true members
  pub utf8 : IsUtf8 text
  pub numbers : MembersHaveNumbers members
  pub shallow : members_depth members ≤ n
  pub tree_is : (located : Members) → mixed_members is_verbatim_name members located ≡ Some (put_all fields located)

-- ---- values

pub text_value : (n : ℕ) (s : List ℕ) → IsUtf8 s → IsValue n (json_text s) (string s)
text_value n s utf8 =
    record { json = json.string s; text_is = refl; utf8 = IsUtf8-quoted s utf8; numbers = tt; shallow = omega arith; tree_is = refl }

pub number_value : (n k : ℕ) → k < 2 ^ 64 → IsValue n (decimal k) (number (unsigned k))
number_value n k fits = record {
  json = json.number (decimal k);
  text_is = refl;
  utf8 = IsUtf8-from_ascii (decimal k) (IsAscii-decimal k fits);
  numbers = IsNumber-decimal k fits;
  shallow = omega arith;
  tree_is = ap (option_map number) (number_of-decimal k fits);
}

pub true_value : (n : ℕ) → IsValue n (codes "true") (boolean true)
true_value n = record { json = json.boolean true; text_is = refl; utf8 = IsUtf8-boolean true; numbers = tt; shallow = omega arith; tree_is = refl }

pub false_value : (n : ℕ) → IsValue n (codes "false") (boolean false)
false_value n = record { json = json.boolean false; text_is = refl; utf8 = IsUtf8-boolean false; numbers = tt; shallow = omega arith; tree_is = refl }

-- ---- objects

pub last_member : (n : ℕ) → AreMembers n (codes "}") []
last_member n = record { members = json.no_members; text_is = refl; utf8 = IsUtf8-are_ascii (125 ∷ []) refl; numbers = tt; shallow = omega arith; tree_is = λ located. refl }

pub absent : (name : List ℕ) (n : ℕ) (rest : List ℕ) (fields : List Field) → AreMembers n rest fields → AreMembers n rest ((name, None) ∷ fields)
absent name n rest fields are =
    record { members = are.members; text_is = are.text_is; utf8 = are.utf8; numbers = are.numbers; shallow = are.shallow; tree_is = are.tree_is }

member_text : (name : List ℕ) (bracket : ℕ) (value rest : List ℕ) → (bracket ∷ (quoted name ++ 58 ∷ [])) ++ (value ++ rest) ≡ bracket ∷ (quoted name ++ 58 ∷ (value ++ rest))
member_text name bracket value rest = ap (λ s. bracket ∷ s) (append_assoc (quoted name) (58 ∷ []) (value ++ rest))

module _ (name front : List ℕ) (n : ℕ) (value rest : List ℕ) (d : Data) (fields : List Field) (is : IsMember name n value d) (are : AreMembers n rest fields) where
  same_text : (bracket : ℕ) → front ≡ bracket ∷ (quoted name ++ 58 ∷ []) → front ++ (value ++ rest) ≡ bracket ∷ (quoted name ++ 58 ∷ (value_text is.json ++ members_text true are.members))
  same_text bracket front_is =
      ap (λ s. s ++ (value ++ rest)) front_is ∙ member_text name bracket value rest ∙ ap₂ (λ v r. bracket ∷ (quoted name ++ 58 ∷ (v ++ r))) is.text_is are.text_is

  all_utf8 : IsUtf8 front → IsUtf8 (front ++ (value ++ rest))
  all_utf8 utf8 = IsUtf8-append front (value ++ rest) utf8 (IsUtf8-append value rest is.utf8 are.utf8)

  pub present : IsUtf8 front → front ≡ 44 ∷ (quoted name ++ 58 ∷ []) → AreMembers n (front ++ (value ++ rest)) ((name, Some d) ∷ fields)
  present utf8 front_is = record {
    members = json.member name is.json are.members;
    text_is = same_text 44 front_is;
    utf8 = all_utf8 utf8;
    numbers = (is.numbers, are.numbers);
    shallow = omega (arith, is.shallow, are.shallow);
    tree_is = λ located. ap (option_and_then (λ e. mixed_members is_verbatim_name are.members (put name e located))) is.tree_is ∙ are.tree_is (put name d located);
  }

  pub object_value : IsUtf8 front → front ≡ 123 ∷ (quoted name ++ 58 ∷ []) → IsValue (suc n) (front ++ (value ++ rest)) (object_with ((name, Some d) ∷ fields))
  object_value utf8 front_is = record {
    json = json.object (json.member name is.json are.members);
    text_is = same_text 123 front_is;
    utf8 = all_utf8 utf8;
    numbers = (is.numbers, are.numbers);
    shallow = omega (arith, is.shallow, are.shallow);
    tree_is =
        ap (option_map object)
        (ap (option_and_then (λ e. mixed_members is_verbatim_name are.members (put name e no_members))) is.tree_is ∙ are.tree_is (put name d no_members));
  }

-- ---- arrays

-- the text is that of items, with the bracket
pub record AreItems (n : ℕ) (later : Bool) (text : List ℕ) (ds : List Data) : Type 0 where
  pub items : json.Items
  pub text_is : text ≡ items_text later items
  pub utf8 : IsUtf8 text
  pub numbers : ItemsHaveNumbers items
  pub shallow : items_depth items ≤ n
  pub tree_is : mixed_items is_verbatim_name items ≡ Some (items_of ds)

pub no_item : (n : ℕ) (later : Bool) → AreItems n later (93 ∷ []) []
no_item n later = record { items = json.no_items; text_is = refl; utf8 = IsUtf8-are_ascii (93 ∷ []) refl; numbers = tt; shallow = omega arith; tree_is = refl }

abbrev comma_before : Bool → List ℕ
comma_before later = cond later (44 ∷ []) []

comma_utf8 : (later : Bool) → IsUtf8 (comma_before later)
comma_utf8 true = IsUtf8-are_ascii (44 ∷ []) refl
comma_utf8 false = IsUtf8-are_ascii [] refl

pub one_item : (n : ℕ) (later : Bool) (value rest : List ℕ) (d : Data) (ds : List Data) → IsValue n value d → AreItems n true rest ds → AreItems n later (comma_before later ++ (value ++ rest)) (d ∷ ds)
one_item n later value rest d ds is are = record {
  items = json.item is.json are.items;
  text_is = ap₂ (λ v r. comma_before later ++ (v ++ r)) is.text_is are.text_is;
  utf8 = IsUtf8-append (comma_before later) (value ++ rest) (comma_utf8 later) (IsUtf8-append value rest is.utf8 are.utf8);
  numbers = (is.numbers, are.numbers);
  shallow = omega (arith, is.shallow, are.shallow);
  tree_is =
      ap (option_and_then (λ e. option_map (item e) (mixed_items is_verbatim_name are.items))) is.tree_is
      ∙ ap (option_map (item d)) are.tree_is;
}

pub array_value : (n : ℕ) (text : List ℕ) (ds : List Data) → AreItems n false text ds → IsValue (suc n) (91 ∷ text) (array (items_of ds))
array_value n text ds are = record {
  json = json.array are.items;
  text_is = ap (λ s. 91 ∷ s) are.text_is;
  utf8 = IsUtf8-append (91 ∷ []) text (IsUtf8-are_ascii (91 ∷ []) refl) are.utf8;
  numbers = are.numbers;
  shallow = omega (arith, are.shallow);
  tree_is = ap (option_map array) are.tree_is;
}
