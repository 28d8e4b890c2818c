-- JSON values that were read and may be copied verbatim, and trees in which some values are such
-- texts.
use Rattle.std.proofs.Common.{◌≡◌, ℕ, suc, ◌≤◌, List, [], ◌∷◌, IsUtf8, cond, Bool, true, false, Option, Some, None, option_map, option_and_then, refl, sym, ap, ◌∙◌, subst, arith, append-nil}
use Rattle.std.specs.Prelude.{⊤, IfSome}
use Rattle.std.specs.Option.{option_map_or}
use Rattle.std.specs.Str.{is_utf8}
use Rattle.std.proofs.lemmas.Option.{same_Some}
use Rattle.std.proofs.lemmas.Str.{IsUtf8-from_is_utf8}
use Rattle.json.specs.Json as json
use Rattle.json.specs.Json.{Json}
use Rattle.json.specs.Lex.{tokens}
use Rattle.json.specs.Token.{Token}
use Rattle.json.specs.Tree.{HasNumbers, ItemsHaveNumbers, MembersHaveNumbers, depth, items_depth, json_tokens, members_depth}
use Rattle.json.proofs.Nesting.{value-depth}
use Rattle.json.proofs.Numbered.{ArePrintableOrBad-tokens, value-HasNumbers}
use Rattle.json.proofs.Printed.Tokens.{tokens-print}
use Rattle.json.proofs.Printed.Trees.{ArePrintable-json_tokens, value-json_tokens}
use Rattle.serde_json.specs.Data.{Data, string, array, object, Items, item, Members, no_members, put}
use Rattle.serde_json.specs.Find.{as_object, as_str, get}
use Rattle.serde_json.specs.Read.{max_depth, of_items, of_json, of_members}
use Rattle.apply_json.specs.Verbatim.{verbatim}
use Rattle.apply_plan_terraform.specs.declared.texts.part.Part.{Part}
use Rattle.apply_plan_terraform.specs.declared.texts.part.Part.TheVariants.{Text}
use Rattle.apply_plan_terraform.specs.Outputs.{text_at}
use Rattle.apply_plan_terraform.specs.Texts.{is_text, json_of, json_of_text, members_with_texts, part_named, with_texts}
use Rattle.laws_check.specs.Forms.{max_verbatim_depth}
use Rattle.laws_check.specs.FormTexts.{IsValueText}
use Rattle.laws_check.proofs.Given.{is_given, next_of}
use Rattle.laws_check.proofs.Legible.{AreClear, HaveClear, IsClear, text_clear, value_spelt}
use Rattle.laws_check.proofs.MemberLists.{AllMembers, found_in, put_one, weaker}
use Rattle.laws_check.proofs.OwnTexts.{printed_utf8}

-- the value that another was made of
pub went_on : {A B : Type 0} (o : Option A) (f : A → Option B) (y : B) → option_and_then f o ≡ Some y → (x : A) × (o ≡ Some x) × (f x ≡ Some y)
went_on None f y e = absurd cc
went_on (Some x) f y e = (x, refl, e)

pub made : {A B : Type 0} (f : A → B) (o : Option A) (y : B) → option_map f o ≡ Some y → (x : A) × (o ≡ Some x) × (f x ≡ y)
made f None y e = absurd cc
made f (Some x) y e = (x, refl, same_Some (f x) y e)

-- ---- values

-- the value nests at most so deep, its texts are UTF-8, its numbers are numbers, and a tree can
-- hold it
pub record IsWhole (n : ℕ) (j : Json) : Type 0 where
  pub clear : IsClear j
  pub numbers : HasNumbers j
  pub shallow : depth j ≤ n
  pub tree : (d : Data) × (of_json j ≡ Some d)

pub raw_texts : (n : ℕ) (j : Json) → n ≤ max_verbatim_depth → IsWhole n j → IsValueText (verbatim j)
raw_texts n j few whole = (
  whole.tree.0,
  record {
    json = j;
    text_is = refl;
    utf8 = printed_utf8 (json_tokens j) (value_spelt j whole.clear);
    numbers = whole.numbers;
    shallow = omega (arith, few, whole.shallow);
    value_is = whole.tree.1;
  },
)

abbrev pub AreWhole : (n : ℕ) → json.Members → Type 0
AreWhole n json.no_members = ⊤
AreWhole n (json.member k j ms) = IsUtf8 k × IsWhole n j × AreWhole n ms

abbrev pub ItemsWhole : (n : ℕ) → json.Items → Type 0
ItemsWhole n json.no_items = ⊤
ItemsWhole n (json.item j js) = IsWhole n j × ItemsWhole n js

members_whole : (n : ℕ) (ms : json.Members) (located x : Members) → HaveClear ms → MembersHaveNumbers ms → members_depth ms ≤ n → of_members ms located ≡ Some x → AreWhole n ms
members_whole n json.no_members located x clear numbers shallow e = tt
members_whole n (json.member k j ms) located x clear numbers shallow e =
    let one = went_on (of_json j) (λ d. of_members ms (put k d located)) x e in (
      clear.0,
      record { clear = clear.1; numbers = numbers.0; shallow = omega (arith, shallow); tree = (one.0, one.1) },
      members_whole n ms (put k one.0 located) x clear.2 numbers.1 (omega (arith, shallow)) one.2,
    )

items_whole : (n : ℕ) (js : json.Items) (x : Items) → AreClear js → ItemsHaveNumbers js → items_depth js ≤ n → of_items js ≡ Some x → ItemsWhole n js
items_whole n json.no_items x clear numbers shallow e = tt
items_whole n (json.item j js) x clear numbers shallow e =
    let one = went_on (of_json j) (λ d. option_map (item d) (of_items js)) x e in
    let others = made (item one.0) (of_items js) x one.2 in (
      record { clear = clear.0; numbers = numbers.0; shallow = omega (arith, shallow); tree = (one.0, one.1) },
      items_whole n js others.0 clear.1 numbers.1 (omega (arith, shallow)) others.1,
    )

pub of_object : (n : ℕ) (ms : json.Members) → IsWhole (suc n) (json.object ms) → AreWhole n ms
of_object n ms whole =
    let located = made object (of_members ms no_members) whole.tree.0 whole.tree.1 in
    members_whole n ms no_members located.0 whole.clear whole.numbers (omega (arith, whole.shallow)) located.1

pub of_array : (n : ℕ) (js : json.Items) → IsWhole (suc n) (json.array js) → ItemsWhole n js
of_array n js whole =
    let located = made array (of_items js) whole.tree.0 whole.tree.1 in
    items_whole n js located.0 whole.clear whole.numbers (omega (arith, whole.shallow)) located.1

-- ---- the value that bytes are

-- what was read before the end of the text
last_is : (x : Json) (rest : List Token) (j : Json) → json.if_last x rest ≡ Some j → x ≡ j
last_is x [] j e = same_Some x j e
last_is x (t ∷ ts) j e = absurd cc

-- the value was read from some text
pub record IsParsed (j : Json) : Type 0 where
  pub clear : IsClear j
  pub numbers : HasNumbers j
  pub shallow : depth j ≤ max_depth

pub of_text : (text : List ℕ) (j : Json) → IsUtf8 text → json_of_text text ≡ Some j → IsParsed j
of_text text j utf8 e =
    let p = went_on (json.value max_depth (tokens text)) (λ q. json.if_last q.0 q.1) j e in
    let same = last_is p.0.0 p.0.1 j p.2 in
    record {
      clear = is_given IsClear (json_of_text text) j (text_clear text utf8) e;
      numbers = subst HasNumbers same (value-HasNumbers max_depth (tokens text) p.0.1 p.0.0 (ArePrintableOrBad-tokens text) p.1);
      shallow = subst (λ (x : Json). depth x ≤ max_depth) same (value-depth max_depth (tokens text) p.0.1 p.0.0 p.1);
    }

pub of_bytes : (bytes : List ℕ) (j : Json) → json_of bytes ≡ Some j → IsParsed j
of_bytes bytes j e = of_test (is_utf8 bytes) refl e
  where
    of_test : (b : Bool) → is_utf8 bytes ≡ b → cond b (json_of_text bytes) None ≡ Some j → IsParsed j
    of_test true utf8 e = of_text bytes j (IsUtf8-from_is_utf8 bytes utf8) e
    of_test false other e = absurd cc

pub whole_of : (j : Json) → IsParsed j → (d : Data) → of_json j ≡ Some d → IsWhole max_depth j
whole_of j parsed d is = record { clear = parsed.clear; numbers = parsed.numbers; shallow = parsed.shallow; tree = (d, is) }

-- an own text is read as the value that it is of
pub parsed_back : (j : Json) → IsWhole max_depth j → json_of_text (verbatim j) ≡ Some j
parsed_back j whole =
    ap (λ o. option_and_then (λ p. json.if_last p.0 p.1) o)
    (ap (json.value max_depth) (tokens-print (json_tokens j) (ArePrintable-json_tokens j whole.numbers) ∙ sym (append-nil (json_tokens j))) ∙ value-json_tokens j max_depth [] whole.shallow)

-- ---- trees with texts

-- the tree of a whole value, which is this part
abbrev pub Comes : (n : ℕ) → Part → Data → Type 0
Comes n part d = (j : Json) × IsWhole n j × (d ≡ with_texts part j)

-- what stands in such a part by that name
abbrev pub IsNamed : (n : ℕ) → Part → List ℕ → Data → Type 0
IsNamed n part k d = (inner : Part) × (part_named part k ≡ Some inner) × Comes n inner d

-- a member of such a part
abbrev IsMember : (n : ℕ) → Part → List ℕ → Data → Type 0
IsMember n part k d = IsUtf8 k × IsNamed n part k d

abbrev pub AllCome : (n : ℕ) → Part → Members → Type 0
AllCome n part ms = AllMembers (IsMember n part) ms

module _ (n : ℕ) (part : Part) where
  pub put_comes : (k : List ℕ) (d : Data) (ms : Members) → IsUtf8 k → IsNamed n part k d → AllCome n part ms → AllCome n part (put k d ms)
  put_comes k d ms utf8 one others = put_one (IsMember n part) k d ms (utf8, one) others

  members_come : (ms : json.Members) (located : Members) → AreWhole n ms → AllCome n part located → AllCome n part (members_with_texts part ms located)
  members_come json.no_members located whole come = come
  members_come (json.member name j ms) located whole come =
      members_come ms (option_map_or (λ inner. put name (with_texts inner j) located) (part_named part name) located) whole.2 (of_part (part_named part name) refl)
    where
      of_part : (o : Option Part) → part_named part name ≡ o → AllCome n part (option_map_or (λ inner. put name (with_texts inner j) located) o located)
      of_part None is = come
      of_part (Some inner) is = put_comes name (with_texts inner j) located whole.0 (inner, is, (j, whole.1, refl)) come

  -- the members of a tree, where it is an object
  object_of : (j : Json) → IsWhole (suc n) j → IfSome (as_object (with_texts part j)) (AllCome n part)
  object_of json.null whole = tt
  object_of (json.boolean b) whole = tt
  object_of (json.number s) whole = tt
  object_of (json.string s) whole = tt
  object_of (json.array js) whole = tt
  object_of (json.object ms) whole = of_test (is_text part)
    where
      of_test : (b : Bool) → IfSome (as_object (cond b (string (verbatim (json.object ms))) (object (members_with_texts part ms no_members)))) (AllCome n part)
      of_test true = tt
      of_test false = members_come ms no_members (of_object n ms whole) tt

  pub members_of : (d : Data) → Comes (suc n) part d → IfSome (as_object d) (AllCome n part)
  members_of d comes = subst (λ (x : Data). IfSome (as_object x) (AllCome n part)) (sym comes.2) (object_of comes.0 comes.1)

  pub is_part : (inner : Part) (k : List ℕ) (d : Data) → part_named part k ≡ Some inner → IsNamed n part k d → Comes n inner d
  is_part inner k d named is = subst (λ (p : Part). Comes n p d) (same_Some is.0 inner (sym is.1 ∙ named)) is.2

  -- the value of a name whose part is known
  pub named : (inner : Part) (k : List ℕ) → part_named part k ≡ Some inner → (d : Data) → Comes (suc n) part d → IfSome (get k d) (Comes n inner)
  named inner k is d comes = weaker (IsMember n part k) (Comes n inner) (get k d) (λ e there. is_part inner k e is there.1) (found_in (IsMember n part) k d (members_of d comes))

kept_text : (j : Json) → with_texts Text j ≡ string (verbatim j)
kept_text json.null = refl
kept_text (json.boolean b) = refl
kept_text (json.number s) = refl
kept_text (json.string s) = refl
kept_text (json.array js) = refl
kept_text (json.object ms) = refl

pub as_kept : (n : ℕ) → n ≤ max_verbatim_depth → (d : Data) → Comes n Text d → IfSome (as_str d) IsValueText
as_kept n few d comes = subst (λ (x : Data). IfSome (as_str x) IsValueText) (sym (comes.2 ∙ kept_text comes.0)) (raw_texts n comes.0 few comes.1)

-- a verbatim member
pub text_verbatim : (n : ℕ) → n ≤ max_verbatim_depth → (part : Part) (k : List ℕ) → part_named part k ≡ Some Text → (d : Data) → Comes (suc n) part d → IfSome (text_at k d) IsValueText
text_verbatim n few part k is d comes = next_of (Comes n Text) IsValueText (get k d) as_str (named n part Text k is d comes) (as_kept n few)
