-- JSON texts, and the trees in which some values are their texts.
use Rattle.std.proofs.Common.{◌≡◌, ℕ, suc, ◌≤◌, List, [], ◌∷◌, ◌++◌, Bool, true, false, Option, Some, None, cond, option_map, refl, sym, ap, ap₂, ◌∙◌, subst, append_assoc, append-nil, arith}
use Rattle.std.specs.Prelude.{IfSome, option_and_then}
use Rattle.std.specs.Option.{option_map_or}
use Rattle.json.specs.Json as json
use Rattle.json.specs.Json.{Json}
use Rattle.json.specs.Lex.{tokens}
use Rattle.json.specs.Print.{quoted}
use Rattle.json.specs.Tree.{HasNumbers, MembersHaveNumbers, depth, json_tokens, members_depth}
use Rattle.json.proofs.Printed.Tokens.{tokens-print}
use Rattle.json.proofs.Printed.Trees.{ArePrintable-json_tokens, value-json_tokens}
use Rattle.serde_json.specs.Data.{Data, Members, no_members, object, put, string}
use Rattle.serde_json.specs.Read.{max_depth}
use Rattle.apply_plan_terraform.specs.declared.texts.part.Part.{Part}
use Rattle.apply_plan_terraform.specs.declared.texts.part.Part.TheVariants as parts
use Rattle.apply_plan_terraform.specs.Texts.{is_text, json_of_text, members_with_texts, part_named, text_of, with_texts}
use Rattle.stream_record.specs.Parts.{json_text, raw_member, text_member}
use Rattle.laws_record.specs.Writable.{IsJsonText}
use Rattle.laws_record.proofs.ValueTexts.{members_text, value_text, verbatim_is}
use Rattle.laws_record.proofs.Values.{Field, IsReadBy, object_with, put_all}

-- the text is that of a value which nests at most so deep, with this tree as that part
pub record IsPart (part : Part) (n : ℕ) (text : List ℕ) (d : Data) : Type 0 where
  pub json : Json
  pub text_is : text ≡ value_text json
  pub numbers : HasNumbers json
  pub shallow : depth json ≤ n
  pub tree_is : with_texts part json ≡ d

-- the text is that of members after another one, with the bracket
pub record ArePart (part : Part) (n : ℕ) (text : List ℕ) (fields : List Field) : Type 0 where
  pub members : json.Members
  pub text_is : text ≡ members_text true members
  pub numbers : MembersHaveNumbers members
  pub shallow : members_depth members ≤ n
  pub tree_is : (located : Members) → members_with_texts part members located ≡ put_all fields located

-- ---- values that are their texts

own_text : (j : Json) → with_texts parts.Text j ≡ string (text_of j)
own_text json.null = refl
own_text (json.boolean b) = refl
own_text (json.number s) = refl
own_text (json.string s) = refl
own_text (json.array js) = refl
own_text (json.object ms) = refl

pub own_list : (j : Json) → with_texts parts.Diagnostics j ≡ string (text_of j)
own_list json.null = refl
own_list (json.boolean b) = refl
own_list (json.number s) = refl
own_list (json.string s) = refl
own_list (json.array js) = refl
own_list (json.object ms) = refl

pub as_text : {tree : Json → Option Data} (n : ℕ) (text : List ℕ) (d : Data) → IsReadBy tree n text d → IsPart parts.Text n text (string text)
as_text n text d is = record {
  json = is.json;
  text_is = is.text_is;
  numbers = is.numbers;
  shallow = is.shallow;
  tree_is = own_text is.json ∙ ap string (verbatim_is is.json ∙ sym is.text_is);
}

pub raw_part : (n : ℕ) (text : List ℕ) → IsJsonText n text → IsPart parts.Text n text (string text)
raw_part n text is = record {
  json = is.json;
  text_is = is.text_is ∙ verbatim_is is.json;
  numbers = is.numbers;
  shallow = is.shallow;
  tree_is = own_text is.json ∙ ap string (sym is.text_is);
}

pub string_part : (n : ℕ) (s : List ℕ) → IsPart parts.Text n (json_text s) (string (json_text s))
string_part n s =
    record { json = json.string s; text_is = refl; numbers = tt; shallow = omega arith; tree_is = ap string (verbatim_is (json.string s)) }

-- ---- members

pub last_part : (part : Part) (n : ℕ) → ArePart part n (125 ∷ []) []
last_part part n = record { members = json.no_members; text_is = refl; numbers = tt; shallow = omega arith; tree_is = λ located. refl }

pub absent_part : (part : Part) (name : List ℕ) (n : ℕ) (rest : List ℕ) (fields : List Field) → ArePart part n rest fields → ArePart part n rest ((name, None) ∷ fields)
absent_part part name n rest fields are =
    record { members = are.members; text_is = are.text_is; numbers = are.numbers; shallow = are.shallow; tree_is = are.tree_is }

joined : (name front : List ℕ) (bracket : ℕ) (value rest v r : List ℕ) → front ≡ bracket ∷ (quoted name ++ 58 ∷ []) → value ≡ v → rest ≡ r → front ++ (value ++ rest) ≡ bracket ∷ (quoted name ++ 58 ∷ (v ++ r))
joined name front bracket value rest v r front_is value_is rest_is =
    ap (λ s. s ++ (value ++ rest)) front_is ∙ ap (λ s. bracket ∷ s) (append_assoc (quoted name) (58 ∷ []) (value ++ rest))
    ∙ ap₂ (λ v r. bracket ∷ (quoted name ++ 58 ∷ (v ++ r))) value_is rest_is

module _ (part inner : Part) (name front : List ℕ) (n : ℕ) (value rest : List ℕ) (d : Data) (fields : List Field) (named : part_named part name ≡ Some inner)
    (is : IsPart inner n value d) (are : ArePart part n rest fields) where
  tree_made : (located : Members) → members_with_texts part (json.member name is.json are.members) located ≡ put_all ((name, Some d) ∷ fields) located
  tree_made located =
      ap (λ o. members_with_texts part are.members (option_map_or (λ inner. put name (with_texts inner is.json) located) o located)) named
      ∙ ap (λ e. members_with_texts part are.members (put name e located)) is.tree_is ∙ are.tree_is (put name d located)

  pub present_part : front ≡ 44 ∷ (quoted name ++ 58 ∷ []) → ArePart part n (front ++ (value ++ rest)) ((name, Some d) ∷ fields)
  present_part front_is = record {
    members = json.member name is.json are.members;
    text_is = joined name front 44 value rest (value_text is.json) (members_text true are.members) front_is is.text_is are.text_is;
    numbers = (is.numbers, are.numbers);
    shallow = omega (arith, is.shallow, are.shallow);
    tree_is = tree_made;
  }

  pub object_part : is_text part ≡ false → front ≡ 123 ∷ (quoted name ++ 58 ∷ []) → IsPart part (suc n) (front ++ (value ++ rest)) (object_with ((name, Some d) ∷ fields))
  object_part inner_is front_is =
      let whole = json.object (json.member name is.json are.members) in
      record {
        json = whole;
        text_is = joined name front 123 value rest (value_text is.json) (members_text true are.members) front_is is.text_is are.text_is;
        numbers = (is.numbers, are.numbers);
        shallow = omega (arith, is.shallow, are.shallow);
        tree_is =
            ap (λ (b : Bool). cond b (string (text_of whole)) (object (members_with_texts part (json.member name is.json are.members) no_members))) inner_is
            ∙ ap object (tree_made no_members);
      }

-- the first member is skipped
pub skipping_part : (part : Part) (name front : List ℕ) (n : ℕ) (value rest : List ℕ) (fields : List Field) (j : Json) → part_named part name ≡ None → is_text part ≡ false
    → value ≡ value_text j → HasNumbers j → depth j ≤ n → ArePart part n rest fields → front ≡ 123 ∷ (quoted name ++ 58 ∷ []) → IsPart part (suc n) (front ++ (value ++ rest)) (object_with fields)
skipping_part part name front n value rest fields j named inner_is value_is numbers shallow are front_is =
    let whole = json.object (json.member name j are.members) in
    record {
      json = whole;
      text_is = joined name front 123 value rest (value_text j) (members_text true are.members) front_is value_is are.text_is;
      numbers = (numbers, are.numbers);
      shallow = omega (arith, shallow, are.shallow);
      tree_is =
          ap (λ (b : Bool). cond b (string (text_of whole)) (object (members_with_texts part (json.member name j are.members) no_members))) inner_is
          ∙ ap (λ o. object (members_with_texts part are.members (option_map_or (λ inner. put name (with_texts inner j) no_members) o no_members))) named
          ∙ ap object (are.tree_is no_members);
    }

-- a member that is its text, or none
module _ (part : Part) (name front : List ℕ) (n : ℕ) (named : part_named part name ≡ Some parts.Text) (front_is : front ≡ 44 ∷ (quoted name ++ 58 ∷ [])) where
  pub text_part : (text : Option (List ℕ)) (rest : List ℕ) (fields : List Field) → ArePart part n rest fields
      → ArePart part n (text_member front text ++ rest) ((name, option_map (λ t. string (json_text t)) text) ∷ fields)
  text_part None rest fields are = absent_part part name n rest fields are
  text_part (Some text) rest fields are =
      subst (λ t. ArePart part n t ((name, Some (string (json_text text))) ∷ fields)) (sym (append_assoc front (json_text text) rest))
      (present_part part parts.Text name front n (json_text text) rest (string (json_text text)) fields named (string_part n text) are front_is)

  pub raw_text_part : (text : Option (List ℕ)) (rest : List ℕ) (fields : List Field) → IfSome text (IsJsonText n) → ArePart part n rest fields
      → ArePart part n (raw_member front text ++ rest) ((name, option_map string text) ∷ fields)
  raw_text_part None rest fields is are = absent_part part name n rest fields are
  raw_text_part (Some text) rest fields is are =
      subst (λ t. ArePart part n t ((name, Some (string text)) ∷ fields)) (sym (append_assoc front text rest))
      (present_part part parts.Text name front n text rest (string text) fields named (raw_part n text is) are front_is)

-- ---- reading

pub json_read : (text : List ℕ) (j : Json) → text ≡ value_text j → HasNumbers j → depth j ≤ max_depth → json_of_text text ≡ Some j
json_read text j is numbers shallow =
    ap (λ o. option_and_then (λ p. json.if_last p.0 p.1) o)
    (ap (json.value max_depth)
    (ap tokens (is ∙ sym (verbatim_is j)) ∙ tokens-print (json_tokens j) (ArePrintable-json_tokens j numbers) ∙ sym (append-nil (json_tokens j)))
    ∙ value-json_tokens j max_depth [] shallow)
