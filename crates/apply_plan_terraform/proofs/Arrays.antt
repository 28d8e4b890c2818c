-- The items of the array in a text, from its first token and the tokens after the array.
use Rattle.std.proofs.Common.{◌≡◌, ℕ, List, [], ◌∷◌, ◌++◌, length, map, Bool, true, false, Option, Some, None, lit<, refl, sym, ap, ◌∙◌, append_assoc}
use Rattle.std.specs.Prelude.{MatchOption, is_some, option_and_then}
use Rattle.std.specs.Option.{option_map_or}
use Rattle.std.proofs.lemmas.List.{map-append}
use Rattle.json.specs.declared.token.Token as token
use Rattle.json.specs.declared.token.Token.TheVariants as variant
use Rattle.json.specs.Token.{Token}
use Rattle.json.specs.Json.{Json, null, boolean, number, string, array, object, Items, Members, if_last, items, parse_map, value}
use Rattle.json.specs.Lex.{tokens}
use Rattle.json.specs.Reads.{token_of}
use Rattle.json.proofs.Grammar.{value_is, value-begin_array}
use Rattle.serde_json.specs.Data.{Data}
use Rattle.serde_json.specs.View.{view}
use Rattle.serde_json.specs.declared.value.Value.{Value}
use Rattle.apply_json.specs.Tree.{◌>>=◌}
use Rattle.apply_plan_terraform.specs.Notes.{items_in, items_in_text, items_of}

-- ---- what begins with another token is no array

abbrev is_array : Json → Bool
is_array null = false
is_array (boolean b) = false
is_array (number s) = false
is_array (string s) = false
is_array (array js) = true
is_array (object ms) = false

abbrev is_of_array : Option (Json × List Token) → Bool
is_of_array collected = option_map_or (λ p. is_array p.0) collected false

no_array_in_object : (collected : Option (Members × List Token)) → is_of_array (parse_map object collected) ≡ false
no_array_in_object None = refl
no_array_in_object (Some p) = refl

other_token : (depth : ℕ) (t : token.Token) (rest : List Token) → (t ≡ variant.BeginArray → ⊥) → is_of_array (value depth (token_of t ∷ rest)) ≡ false
other_token depth variant.BeginObject rest other = ap is_of_array (value_is depth _) ∙ no_array_in_object _
other_token depth variant.EndObject rest other = ap is_of_array (value_is depth _)
other_token depth variant.BeginArray rest other = absurd (other refl)
other_token depth variant.EndArray rest other = ap is_of_array (value_is depth _)
other_token depth (variant.Key s) rest other = ap is_of_array (value_is depth _)
other_token depth (variant.String s) rest other = ap is_of_array (value_is depth _)
other_token depth (variant.Number s) rest other = ap is_of_array (value_is depth _)
other_token depth (variant.Bool b) rest other = ap is_of_array (value_is depth _)
other_token depth variant.Null rest other = ap is_of_array (value_is depth _)
other_token depth variant.Bad rest other = ap is_of_array (value_is depth _)

no_items_in : (j : Json) (ts : List Token) → is_array j ≡ false → (if_last j ts >>= items_in) ≡ None
no_items_in j (t ∷ ts) is = refl
no_items_in null [] is = refl
no_items_in (boolean b) [] is = refl
no_items_in (number s) [] is = refl
no_items_in (string s) [] is = refl
no_items_in (array js) [] is = absurd cc
no_items_in (object ms) [] is = refl

abbrev collected_items : Option (Json × List Token) → Option (List Data)
collected_items collected = option_and_then (λ p. if_last p.0 p.1) collected >>= items_in

no_array : (collected : Option (Json × List Token)) → is_of_array collected ≡ false → collected_items collected ≡ None
no_array None is = refl
no_array (Some p) is = no_items_in p.0 p.1 is

-- ---- by the tokens of the text

module _ (text : List ℕ) where
  pub of_nothing : tokens text ≡ [] → items_in_text text ≡ None
  of_nothing is = ap (λ ts. collected_items (value 127 ts)) is ∙ ap collected_items (value_is 127 [])

  pub of_other : (t : token.Token) (rest : List Token) → tokens text ≡ token_of t ∷ rest → (t ≡ variant.BeginArray → ⊥) → items_in_text text ≡ None
  of_other t rest is other = ap (λ ts. collected_items (value 127 ts)) is ∙ no_array (value 127 (token_of t ∷ rest)) (other_token 127 t rest other)

  module _ (t : token.Token) (rest : List Token) (is : tokens text ≡ token_of t ∷ rest) (begins : t ≡ variant.BeginArray) where
    of_array : (collected : Option (Items × List Token)) → items (value 126) (length rest) rest ≡ collected → items_in_text text ≡ collected_items (parse_map array collected)
    of_array collected read =
        ap (λ ts. collected_items (value 127 ts)) (is ∙ ap (λ t. token_of t ∷ rest) begins)
        ∙ ap collected_items (value-begin_array 127 rest (lit< tt) ∙ ap (parse_map array) read)

    pub of_broken : items (value 126) (length rest) rest ≡ None → items_in_text text ≡ None
    of_broken read = of_array None read

    pub of_whole : (js : Items) (r : List Token) → items (value 126) (length rest) rest ≡ Some (js, r) → r ≡ [] → items_in_text text ≡ Some (items_of js)
    of_whole js r read last = of_array (Some (js, r)) read ∙ ap (λ (ts : List Token). if_last (array js) ts >>= items_in) last

    pub of_more : (js : Items) (r : List Token) (next : Token) (others : List Token) → items (value 126) (length rest) rest ≡ Some (js, r) → r ≡ next ∷ others → items_in_text text ≡ None
    of_more js r next others read last = of_array (Some (js, r)) read ∙ ap (λ (ts : List Token). if_last (array js) ts >>= items_in) last

-- ---- items that were read, one after the other

pub grown : (old new : List Value) (v : Value) (d : Data) (rest : List Data) → new ≡ old ++ v ∷ [] → view v ≡ d → map view old ++ d ∷ rest ≡ map view new ++ rest
grown old new v d rest is seen =
    ap (λ (x : Data). map view old ++ x ∷ rest) (sym seen)
    ∙ sym (append_assoc (map view old) (view v ∷ []) rest)
    ∙ ap (λ (ds : List Data). ds ++ rest) (sym (ap (map view) is ∙ map-append view old (v ∷ [])))

-- ---- whether a token is left

pub none_left : (o : Option token.Token) (old new : List Token) → is_some o ≡ false → MatchOption o ((old ≡ []) × (new ≡ [])) (λ t. old ≡ token_of t ∷ new) → old ≡ []
none_left None old new is left = left.0
none_left (Some t) old new is left = absurd cc

pub one_left : (o : Option token.Token) (old new : List Token) → is_some o ≡ true → MatchOption o ((old ≡ []) × (new ≡ [])) (λ t. old ≡ token_of t ∷ new) → (t : Token) × (old ≡ t ∷ new)
one_left None old new is left = absurd cc
one_left (Some t) old new is left = (token_of t, left)
