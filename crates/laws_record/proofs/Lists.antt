-- Members and lists that may be absent.
use Rattle.std.proofs.Common.{◌≡◌, ℕ, suc, List, [], ◌∷◌, ◌++◌, IsUtf8, Bool, true, false, Option, Some, None, cond, map, option_map, sym, ap, ◌∙◌, subst, append_assoc}
use Rattle.std.specs.Prelude.{codes, IfSome, ⊤}
use Rattle.std.specs.List.{AllByRecursion}
use Rattle.json.specs.Print.{quoted}
use Rattle.serde_json.specs.Data.{Data, string, array}
use Rattle.apply_json.specs.Verbatim.{as_verbatim, mixed_tree, verbatim}
use Rattle.apply_plan.specs.ListReading.{items_of}
use Rattle.apply_plan.specs.Script.Entry.{is_verbatim_name}
use Rattle.stream_record.specs.Parts.{json_text, list_text, raw_member, text_member}
use Rattle.laws_record.specs.Writable.{IsJsonText, IsObjectText}
use Rattle.laws_record.proofs.ValueTexts.{verbatim_is}
use Rattle.laws_record.proofs.Values.{AreItems, AreMembers, Field, IsMember, IsValue, absent, array_value, no_item, one_item, present, text_value}

-- ---- members

-- a value whose name is that of no raw text
pub plain : (name : List ℕ) (n : ℕ) (text : List ℕ) (d : Data) → is_verbatim_name name ≡ false → IsValue n text d → IsMember name n text d
plain name n text d other is = record {
  json = is.json;
  text_is = is.text_is;
  utf8 = is.utf8;
  numbers = is.numbers;
  shallow = is.shallow;
  tree_is = ap (λ (b : Bool). cond b (as_verbatim is.json) (mixed_tree is_verbatim_name is.json)) other ∙ is.tree_is;
}

-- a raw text
pub raw : (name : List ℕ) (n : ℕ) (text : List ℕ) → is_verbatim_name name ≡ true → IsJsonText n text → IsMember name n text (string text)
raw name n text verbatim_name is = record {
  json = is.json;
  text_is = is.text_is ∙ verbatim_is is.json;
  utf8 = is.utf8;
  numbers = is.numbers;
  shallow = is.shallow;
  tree_is =
      ap (λ (b : Bool). cond b (as_verbatim is.json) (mixed_tree is_verbatim_name is.json)) verbatim_name
      ∙ ap (option_map (λ tree. string (verbatim is.json))) is.tree_is ∙ ap (λ s. Some (string s)) (sym is.text_is);
}

module _ (name front : List ℕ) (n : ℕ) (utf8 : IsUtf8 front) (front_is : front ≡ 44 ∷ (quoted name ++ 58 ∷ [])) where
  pub text_before : (other : is_verbatim_name name ≡ false) (text : Option (List ℕ)) (rest : List ℕ) (fields : List Field) → IfSome text IsUtf8 → AreMembers n rest fields
      → AreMembers n (text_member front text ++ rest) ((name, option_map string text) ∷ fields)
  text_before other None rest fields is are = absent name n rest fields are
  text_before other (Some text) rest fields is are =
      subst (λ t. AreMembers n t ((name, Some (string text)) ∷ fields)) (sym (append_assoc front (json_text text) rest))
      (present name front n (json_text text) rest (string text) fields (plain name n (json_text text) (string text) other (text_value n text is)) are utf8 front_is)

  pub raw_before : (verbatim_name : is_verbatim_name name ≡ true) (text : Option (List ℕ)) (rest : List ℕ) (fields : List Field) → IfSome text (IsObjectText n) → AreMembers n rest fields
      → AreMembers n (raw_member front text ++ rest) ((name, option_map string text) ∷ fields)
  raw_before verbatim_name None rest fields is are = absent name n rest fields are
  raw_before verbatim_name (Some text) rest fields is are =
      subst (λ t. AreMembers n t ((name, Some (string text)) ∷ fields)) (sym (append_assoc front text rest))
      (present name front n text rest (string text) fields (raw name n text verbatim_name is.json_text) are utf8 front_is)

-- ---- arrays

-- the texts are those of values with these trees
abbrev pub AreValues : (n : ℕ) → List (List ℕ) → List Data → Type 0
AreValues n [] [] = ⊤
AreValues n [] (d ∷ ds) = ⊥
AreValues n (text ∷ texts) [] = ⊥
AreValues n (text ∷ texts) (d ∷ ds) = IsValue n text d × AreValues n texts ds

-- an array, unless it has no items
abbrev pub array_unless_empty : List Data → Option Data
array_unless_empty [] = None
array_unless_empty (d ∷ ds) = Some (array (items_of (d ∷ ds)))

later_items : (begin : List ℕ) (n : ℕ) (texts : List (List ℕ)) (ds : List Data) → AreValues n texts ds → AreItems n true (list_text begin (codes "]") true texts) ds
later_items begin n [] [] are = no_item n true
later_items begin n [] (d ∷ ds) are = absurd are
later_items begin n (text ∷ texts) [] are = absurd are
later_items begin n (text ∷ texts) (d ∷ ds) are = one_item n true text (list_text begin (codes "]") true texts) d ds are.0 (later_items begin n texts ds are.1)

pub list_before : (name front : List ℕ) (n : ℕ) → IsUtf8 front → front ≡ 44 ∷ (quoted name ++ 58 ∷ []) → is_verbatim_name name ≡ false
    → (texts : List (List ℕ)) (ds : List Data) (rest : List ℕ) (fields : List Field) → AreValues n texts ds → AreMembers (suc n) rest fields
    → AreMembers (suc n) (list_text (front ++ 91 ∷ []) (codes "]") false texts ++ rest) ((name, array_unless_empty ds) ∷ fields)
list_before name front n utf8 front_is other [] [] rest fields is are = absent name (suc n) rest fields are
list_before name front n utf8 front_is other [] (d ∷ ds) rest fields is are = absurd is
list_before name front n utf8 front_is other (text ∷ texts) [] rest fields is are = absurd is
list_before name front n utf8 front_is other (text ∷ texts) (d ∷ ds) rest fields is are =
    let begin = front ++ 91 ∷ [] in
    let items = text ++ list_text begin (codes "]") true texts in
    let tree = array (items_of (d ∷ ds)) in
    let value : IsValue (suc n) (91 ∷ items) tree =
    array_value n items (d ∷ ds) (one_item n false text (list_text begin (codes "]") true texts) d ds is.0 (later_items begin n texts ds is.1)) in
    subst (λ t. AreMembers (suc n) t ((name, Some tree) ∷ fields)) (sym (append_assoc begin items rest ∙ append_assoc front (91 ∷ []) (items ++ rest)))
    (present name front (suc n) (91 ∷ items) rest tree fields (plain name (suc n) (91 ∷ items) tree other value) are utf8 front_is)

-- an array that may have no items, before its bracket
bare_items : (n : ℕ) (later : Bool) (texts : List (List ℕ)) (ds : List Data) → AreValues n texts ds → AreItems n later (list_text [] [] later texts ++ codes "]") ds
bare_items n true [] [] are = no_item n true
bare_items n false [] [] are = no_item n false
bare_items n later [] (d ∷ ds) are = absurd are
bare_items n later (text ∷ texts) [] are = absurd are
bare_items n true (text ∷ texts) (d ∷ ds) are =
    subst (λ t. AreItems n true (44 ∷ t) (d ∷ ds)) (sym (append_assoc text (list_text [] [] true texts) (codes "]")))
    (one_item n true text (list_text [] [] true texts ++ codes "]") d ds are.0 (bare_items n true texts ds are.1))
bare_items n false (text ∷ texts) (d ∷ ds) are =
    subst (λ t. AreItems n false t (d ∷ ds)) (sym (append_assoc text (list_text [] [] true texts) (codes "]")))
    (one_item n false text (list_text [] [] true texts ++ codes "]") d ds are.0 (bare_items n true texts ds are.1))

pub bare_array : (n : ℕ) (texts : List (List ℕ)) (ds : List Data) → AreValues n texts ds → IsValue (suc n) (91 ∷ (list_text [] [] false texts ++ codes "]")) (array (items_of ds))
bare_array n texts ds are = array_value n (list_text [] [] false texts ++ codes "]") ds (bare_items n false texts ds are)

-- ---- lists of pairs

pub all_values : {X : Type 0} (n : ℕ) (text : X → List ℕ) (tree : X → Data) (Q : X → Type 0) → ((x : X) → Q x → IsValue n (text x) (tree x)) → (xs : List X) → AllByRecursion Q xs
    → AreValues n (map text xs) (map tree xs)
all_values n text tree Q each [] all = tt
all_values n text tree Q each (x ∷ xs) all = (each x all.0, all_values n text tree Q each xs all.1)
