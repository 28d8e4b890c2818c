-- A lookup in a tree gives the last member of that name.
use Rattle.std.proofs.Common.{◌≡◌, ℕ, List, Bool, true, false, cond, Option, Some, None, option_map, option_and_then, refl, sym, ap, ◌∙◌, subst}
use Rattle.std.specs.Option.{option_map_or}
use Rattle.std.specs.Str.{bytes_eq, is_utf8}
use Rattle.std.proofs.lemmas.Option.{same_Some}
use Rattle.std.proofs.lemmas.Slice.Eq.{bytes_eq-Decides}
use Rattle.json.specs.Json as json
use Rattle.serde_json.specs.Data.{Data, null, boolean, number, string, array, object, Members, no_members, put}
use Rattle.serde_json.specs.Find.{get, get_member}
use Rattle.serde_json.specs.Read.{number_of}
use Rattle.serde_json.proofs.Views.{get_member-put, get_member-put_other}
use Rattle.apply_json.specs.Verbatim.{mixed_tree, mixed_items, mixed_member, mixed_members, mixed_tree_of}
use Rattle.apply_json.specs.Tree.{◌>>=◌}
use Rattle.apply_plan_terraform.specs.declared.texts.part.Part.{Part}
use Rattle.apply_plan_terraform.specs.Texts.{is_text, json_of, json_of_text, members_with_texts, part_named, text_of, with_texts}
use Rattle.laws_run.specs.LastMembers.{last_in, last_of}

is_name : (key name : List ℕ) → bytes_eq key name ≡ true → key ≡ name
is_name key name same = (bytes_eq-Decides key name).0 same

differ : (key name : List ℕ) → bytes_eq key name ≡ false → name ≡ key → ⊥
differ key name other same = let equal : bytes_eq key name ≡ true = (bytes_eq-Decides key name).1 (sym same) in cc

at_name : (name key : List ℕ) (d : Data) (ms : Members) → bytes_eq key name ≡ true → get_member name (put key d ms) ≡ Some d
at_name name key d ms same = ap (λ (k : List ℕ). get_member name (put k d ms)) (is_name key name same) ∙ get_member-put name d ms

at_other : (name key : List ℕ) (d : Data) (ms : Members) → bytes_eq key name ≡ false → get_member name (put key d ms) ≡ get_member name ms
at_other name key d ms other = get_member-put_other name key d ms (differ key name other)

-- ---- values as verbatim texts

module _ (part inner : Part) (name : List ℕ) (named : part_named part name ≡ Some inner) where
  -- a member goes in, or is passed over
  one_in : (key : List ℕ) (j : json.Json) (located : Members) (last : Option json.Json) (same : Bool) → bytes_eq key name ≡ same
      → get_member name located ≡ option_map (with_texts inner) last
      → get_member name (option_map_or (λ inner. put key (with_texts inner j) located) (part_named part key) located) ≡ option_map (with_texts inner) (cond same (Some j) last)
  one_in key j located last true same is =
      ap (λ (o : Option Part). get_member name (option_map_or (λ inner. put key (with_texts inner j) located) o located)) (ap (part_named part) (is_name key name same) ∙ named)
      ∙ at_name name key (with_texts inner j) located same
  one_in key j located last false other is = passed (part_named part key)
    where
      passed : (below : Option Part) → get_member name (option_map_or (λ inner. put key (with_texts inner j) located) below located) ≡ option_map (with_texts inner) last
      passed None = is
      passed (Some part) = at_other name key (with_texts part j) located other ∙ is

  all_in : (ms : json.Members) (located : Members) (last : Option json.Json) → get_member name located ≡ option_map (with_texts inner) last
      → get_member name (members_with_texts part ms located) ≡ option_map (with_texts inner) (last_in name ms last)
  all_in json.no_members located last is = is
  all_in (json.member key j ms) located last is =
      all_in ms (option_map_or (λ inner. put key (with_texts inner j) located) (part_named part key) located) (cond (bytes_eq key name) (Some j) last)
      (one_in key j located last (bytes_eq key name) refl is)

  -- a part that is no verbatim text
  pub text_found : is_text part ≡ false → (j : json.Json) → get name (with_texts part j) ≡ option_map (with_texts inner) (last_of name j)
  text_found object_verbatim json.null = refl
  text_found object_verbatim (json.boolean b) = refl
  text_found object_verbatim (json.number s) = refl
  text_found object_verbatim (json.string s) = refl
  text_found object_verbatim (json.array js) = refl
  text_found object_verbatim (json.object ms) =
      ap (λ (b : Bool). get name (cond b (string (text_of (json.object ms))) (object (members_with_texts part ms no_members)))) object_verbatim ∙ all_in ms no_members None refl

-- ---- trees

-- the step that a value was made in
pub step : {A B : Type 0} (o : Option A) (f : A → Option B) (y : B) → (o >>= f) ≡ Some y → (x : A) × (o ≡ Some x) × (f x ≡ Some y)
step None f y e = absurd cc
step (Some x) f y e = (x, refl, e)

pub map_some : {A B : Type 0} (f : A → B) (o : Option A) (y : B) → option_map f o ≡ Some y → (x : A) × (o ≡ Some x) × (f x ≡ y)
map_some f None y e = absurd cc
map_some f (Some x) y e = (x, refl, same_Some (f x) y e)

pub then_some : {A B : Type 0} (f : A → Option B) (o : Option A) (y : B) → option_and_then f o ≡ Some y → (x : A) × (o ≡ Some x) × (f x ≡ Some y)
then_some f None y e = absurd cc
then_some f (Some x) y e = (x, refl, e)

-- the tree is made of the last member of a name, or there is neither
abbrev pub IsMade : (is_raw_name : List ℕ → Bool) (name : List ℕ) → Option json.Json → Option Data → Type 0
IsMade is_raw_name name None None = Unit {0}
IsMade is_raw_name name None (Some d) = ⊥
IsMade is_raw_name name (Some j) None = ⊥
IsMade is_raw_name name (Some j) (Some d) = mixed_member is_raw_name name j ≡ Some d

module _ (is_raw_name : List ℕ → Bool) (name : List ℕ) where
  -- what no object is made of has no member
  no_member : (d e : Data) → d ≡ e → get name d ≡ None → IsMade is_raw_name name None (get name e)
  no_member d e same none = subst (IsMade is_raw_name name None) (sym none ∙ ap (get name) same) tt

  none_of : {A : Type 0} (f : A → Data) → ((a : A) → get name (f a) ≡ None) → (o : Option A) (d : Data) → option_map f o ≡ Some d → IsMade is_raw_name name None (get name d)
  none_of f none None d e = absurd cc
  none_of f none (Some a) d e = no_member (f a) d (same_Some (f a) d e) (none a)

  put_made : (key : List ℕ) (j : json.Json) (d : Data) (located : Members) (last : Option json.Json) (same : Bool) → bytes_eq key name ≡ same
      → mixed_member is_raw_name key j ≡ Some d → IsMade is_raw_name name last (get_member name located) → IsMade is_raw_name name (cond same (Some j) last) (get_member name (put key d located))
  put_made key j d located last true same made is =
      subst (IsMade is_raw_name name (Some j)) (sym (at_name name key d located same)) (ap (λ (k : List ℕ). mixed_member is_raw_name k j) (sym (is_name key name same)) ∙ made)
  put_made key j d located last false other made is = subst (IsMade is_raw_name name last) (sym (at_other name key d located other)) is

  all_made : (ms : json.Members) (located all : Members) (last : Option json.Json) → IsMade is_raw_name name last (get_member name located) → mixed_members is_raw_name ms located ≡ Some all
      → IsMade is_raw_name name (last_in name ms last) (get_member name all)
  all_made json.no_members located all last is e = subst (λ (ms : Members). IsMade is_raw_name name last (get_member name ms)) (same_Some located all e) is
  all_made (json.member key j ms) located all last is e =
      let first = then_some (λ d. mixed_members is_raw_name ms (put key d located)) (mixed_member is_raw_name key j) all e in
      all_made ms (put key first.0 located) all (cond (bytes_eq key name) (Some j) last) (put_made key j first.0 located last (bytes_eq key name) refl first.1 is) first.2

  -- a member of the tree that a value is
  pub member_made : (j : json.Json) (d : Data) → mixed_tree is_raw_name j ≡ Some d → IsMade is_raw_name name (last_of name j) (get name d)
  member_made json.null d e = no_member null d (same_Some null d e) refl
  member_made (json.boolean b) d e = no_member (boolean b) d (same_Some (boolean b) d e) refl
  member_made (json.number s) d e = none_of number (λ a. refl) (number_of s) d e
  member_made (json.string s) d e = no_member (string s) d (same_Some (string s) d e) refl
  member_made (json.array js) d e = none_of array (λ a. refl) (mixed_items is_raw_name js) d e
  member_made (json.object ms) d e =
      let all = map_some object (mixed_members is_raw_name ms no_members) d e in
      subst (λ (x : Data). IsMade is_raw_name name (last_in name ms None) (get name x)) all.2 (all_made ms no_members all.0 None tt all.1)

  by_last : (last : Option json.Json) (o : Option Data) → IsMade is_raw_name name last o → o ≡ (last >>= mixed_member is_raw_name name)
  by_last None None is = refl
  by_last None (Some d) is = absurd is
  by_last (Some j) None is = absurd is
  by_last (Some j) (Some d) is = sym is

  pub found_in : (j : json.Json) (d : Data) → mixed_tree is_raw_name j ≡ Some d → get name d ≡ (last_of name j >>= mixed_member is_raw_name name)
  found_in j d e = by_last (last_of name j) (get name d) (member_made j d e)

-- bytes have the tree of their value
pub tree_of_value : (is_raw_name : List ℕ → Bool) (bytes : List ℕ) → mixed_tree_of is_raw_name bytes ≡ (json_of bytes >>= mixed_tree is_raw_name)
tree_of_value is_raw_name bytes = of_test (is_utf8 bytes)
  where
    of_value : (o : Option json.Json) → option_and_then (mixed_tree is_raw_name) o ≡ (o >>= mixed_tree is_raw_name)
    of_value None = refl
    of_value (Some j) = refl

    of_test : (b : Bool) → cond b (option_and_then (mixed_tree is_raw_name) (json_of_text bytes)) None ≡ (cond b (json_of_text bytes) None >>= mixed_tree is_raw_name)
    of_test true = of_value (json_of_text bytes)
    of_test false = refl
