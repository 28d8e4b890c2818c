-- The text of a JSON value without blanks, member by member.
use Rattle.std.proofs.Common.{◌≡◌, ℕ, List, [], ◌∷◌, ◌++◌, Bool, true, false, refl, sym, ap, ◌∙◌, append_assoc, append-nil}
use Rattle.json.specs.Token.{Token}
use Rattle.json.specs.Json.{Json, null, boolean, number, string, array, object, Items, no_items, item, Members, no_members, member}
use Rattle.json.specs.Print.{print, print_from, quoted, token_text}
use Rattle.json.specs.Tree.{items_tokens, json_tokens, members_tokens}
use Rattle.serde_json.specs.Written.{comma_if}
use Rattle.apply_json.specs.Verbatim.{verbatim}

abbrev mutual
  pub value_text : Json → List ℕ
  value_text null = token_text Token.null
  value_text (boolean b) = token_text (Token.boolean b)
  value_text (number s) = s
  value_text (string s) = quoted s
  value_text (array js) = 91 ∷ items_text false js
  value_text (object ms) = 123 ∷ members_text false ms

  -- with the closing bracket
  pub items_text : Bool → Items → List ℕ
  items_text later no_items = 93 ∷ []
  items_text later (item j js) = comma_if later ++ (value_text j ++ items_text true js)

  pub members_text : Bool → Members → List ℕ
  members_text later no_members = 125 ∷ []
  members_text later (member k j ms) = comma_if later ++ (quoted k ++ 58 ∷ (value_text j ++ members_text true ms))

regroup_item : (a b c d : List ℕ) → a ++ (b ++ (c ++ d)) ≡ (a ++ (b ++ c)) ++ d
regroup_item a b c d = simp append_assoc

regroup_member : (k v m s : List ℕ) → (k ++ 58 ∷ []) ++ (v ++ (m ++ s)) ≡ (k ++ 58 ∷ (v ++ m)) ++ s
regroup_member k v m s = simp append_assoc

printed_member : (k : List ℕ) (j : Json) (ms : Members) (ts : List Token)
    → print_from false (json_tokens j ++ (members_tokens ms ++ ts)) ≡ value_text j ++ print_from true (members_tokens ms ++ ts)
    → print_from true (members_tokens ms ++ ts) ≡ members_text true ms ++ print_from true ts
    → (quoted k ++ 58 ∷ []) ++ print_from false ((json_tokens j ++ members_tokens ms) ++ ts) ≡ (quoted k ++ 58 ∷ (value_text j ++ members_text true ms)) ++ print_from true ts
printed_member k j ms ts value rest =
    ap (λ s. (quoted k ++ 58 ∷ []) ++ s) (ap (print_from false) (append_assoc (json_tokens j) (members_tokens ms) ts) ∙ value ∙ ap (λ s. value_text j ++ s) rest)
    ∙ regroup_member (quoted k) (value_text j) (members_text true ms) (print_from true ts)

mutual
  unfolding print_from

  printed_value : (later : Bool) (j : Json) (ts : List Token) → print_from later (json_tokens j ++ ts) ≡ comma_if later ++ (value_text j ++ print_from true ts)
  printed_value true null ts = refl
  printed_value false null ts = refl
  printed_value true (boolean b) ts = refl
  printed_value false (boolean b) ts = refl
  printed_value true (number s) ts = refl
  printed_value false (number s) ts = refl
  printed_value true (string s) ts = refl
  printed_value false (string s) ts = refl
  printed_value true (array js) ts = ap (λ s. 44 ∷ 91 ∷ s) (printed_items false js ts)
  printed_value false (array js) ts = ap (λ s. 91 ∷ s) (printed_items false js ts)
  printed_value true (object ms) ts = ap (λ s. 44 ∷ 123 ∷ s) (printed_members false ms ts)
  printed_value false (object ms) ts = ap (λ s. 123 ∷ s) (printed_members false ms ts)

  printed_items : (later : Bool) (js : Items) (ts : List Token) → print_from later (items_tokens js ++ ts) ≡ items_text later js ++ print_from true ts
  printed_items true no_items ts = refl
  printed_items false no_items ts = refl
  printed_items later (item j js) ts =
      let rest = items_tokens js in
      ap (print_from later) (append_assoc (json_tokens j) rest ts) ∙ printed_value later j (rest ++ ts) ∙ ap (λ s. comma_if later ++ (value_text j ++ s)) (printed_items true js ts)
      ∙ regroup_item (comma_if later) (value_text j) (items_text true js) (print_from true ts)

  printed_members : (later : Bool) (ms : Members) (ts : List Token) → print_from later (members_tokens ms ++ ts) ≡ members_text later ms ++ print_from true ts
  printed_members true no_members ts = refl
  printed_members false no_members ts = refl
  printed_members true (member k j ms) ts = ap (λ s. 44 ∷ s) (printed_member k j ms ts (printed_value false j (members_tokens ms ++ ts)) (printed_members true ms ts))
  printed_members false (member k j ms) ts = printed_member k j ms ts (printed_value false j (members_tokens ms ++ ts)) (printed_members true ms ts)

pub verbatim_is : (j : Json) → verbatim j ≡ value_text j
unfolding print_from
verbatim_is j = ap print (sym (append-nil (json_tokens j))) ∙ printed_value false j [] ∙ append-nil (value_text j)
