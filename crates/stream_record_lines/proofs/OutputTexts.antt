-- The outputs of a whole text, by its first token and by what follows.
use Rattle.std.proofs.Common.{◌≡◌, ◌-◌, List, [], ◌∷◌, length, Option, Some, None, option_and_then, refl, sym, ap, ◌∙◌, lit<}
use Rattle.std.specs.Prelude.{ℕ}
use Rattle.json.specs.declared.token.Token as token
use Rattle.json.specs.declared.token.Token.TheVariants as variant
use Rattle.json.specs.Token.{Token}
use Rattle.json.specs.Json.{Json, null, boolean, number, string, array, object, Items, Members, if_last, members, parse_map, value}
use Rattle.json.specs.Lex.{tokens}
use Rattle.json.specs.Reads.{token_of}
use Rattle.json.proofs.Grammar.{value_is}
use Rattle.serde_json.specs.Read.{converted, max_depth}
use Rattle.apply_json.proofs.FirstToken.{opened_object}
use Rattle.apply_json.proofs.Turns.{converted_some, refused}
use Rattle.stream_record_lines.specs.Outputs.{StatedOutput, outputs_in, outputs_of_text, outputs_of_value}

-- the outputs of a value that nothing follows
abbrev alone : Option (Json × List Token) → Option (List StatedOutput)
alone o = option_and_then outputs_of_value (option_and_then (λ p. if_last p.0 p.1) o)

abbrev pub in_members : Members → Option (List StatedOutput)
in_members ms = outputs_in ms []

-- ---- an object

none_last : (j : Json) (rest : List Token) → outputs_of_value j ≡ None → option_and_then outputs_of_value (if_last j rest) ≡ None
none_last j [] none = none
none_last j (t ∷ ts) none = refl

not_last : (j : Json) (rest : List Token) → (rest ≡ [] → ⊥) → option_and_then outputs_of_value (if_last j rest) ≡ None
not_last j [] more = absurd (more refl)
not_last j (t ∷ ts) more = refl

none_found : (o : Option (Members × List Token)) → converted in_members o ≡ None → alone (parse_map object o) ≡ None
none_found None none = refl
none_found (Some p) none = none_last (object p.0) p.1 (refused p.1 (in_members p.0) none)

module _ (o : Option (Members × List Token)) (outputs : List StatedOutput) (rest : List Token) (found : converted in_members o ≡ Some (outputs, rest)) where
  all_found : rest ≡ [] → alone (parse_map object o) ≡ Some outputs
  all_found over =
      let ms = converted_some in_members o outputs rest found in
      ap (λ x. alone (parse_map object x)) (ms.1 ∙ ap (λ ts. Some (ms.0, ts)) over) ∙ ms.2

  more_found : (rest ≡ [] → ⊥) → alone (parse_map object o) ≡ None
  more_found more =
      let ms = converted_some in_members o outputs rest found in
      ap (λ x. alone (parse_map object x)) ms.1 ∙ not_last (object ms.0) rest more

-- ---- any other value

no_array : (o : Option (Items × List Token)) → alone (parse_map array o) ≡ None
no_array None = refl
no_array (Some p) = none_last (array p.0) p.1 refl

other_token : (t : token.Token) (rest : List Token) → (t ≡ variant.BeginObject → ⊥) → alone (value max_depth (token_of t ∷ rest)) ≡ None
other_token variant.BeginObject rest other = absurd (other refl)
other_token variant.EndObject rest other = ap alone (value_is max_depth _)
other_token variant.BeginArray rest other = ap alone (value_is max_depth _) ∙ no_array _
other_token variant.EndArray rest other = ap alone (value_is max_depth _)
other_token (variant.Key s) rest other = ap alone (value_is max_depth _)
other_token (variant.String s) rest other = ap alone (value_is max_depth _) ∙ none_last (string s.now) rest refl
other_token (variant.Number s) rest other = ap alone (value_is max_depth _) ∙ none_last (number s.now) rest refl
other_token (variant.Bool b) rest other = ap alone (value_is max_depth _) ∙ none_last (boolean b) rest refl
other_token variant.Null rest other = ap alone (value_is max_depth _) ∙ none_last null rest refl
other_token variant.Bad rest other = ap alone (value_is max_depth _)

-- ---- a text, by its tokens

module _ (text : List ℕ) (reader : List Token) (all : reader ≡ tokens text) where
  by_tokens : outputs_of_text text ≡ alone (value max_depth reader)
  by_tokens = ap (λ ts. alone (value max_depth ts)) (sym all)

  pub of_nothing : reader ≡ [] → outputs_of_text text ≡ None
  of_nothing empty = by_tokens ∙ ap (λ ts. alone (value max_depth ts)) empty ∙ ap alone (value_is max_depth [])

  module _ (t : token.Token) (rest : List Token) (first : reader ≡ token_of t ∷ rest) where
    pub of_other : (t ≡ variant.BeginObject → ⊥) → outputs_of_text text ≡ None
    of_other other = by_tokens ∙ ap (λ ts. alone (value max_depth ts)) first ∙ other_token t rest other

    module _ (is : t ≡ variant.BeginObject) where
      -- the members that follow
      abbrev pub following : Option (Members × List Token)
      following = members (value (max_depth - 1)) (length rest) rest

      by_members : outputs_of_text text ≡ alone (parse_map object following)
      by_members = by_tokens ∙ ap alone (opened_object max_depth reader rest t first (lit< tt) is)

      pub of_no_members : converted in_members following ≡ None → outputs_of_text text ≡ None
      of_no_members none = by_members ∙ none_found following none

      module _ (outputs : List StatedOutput) (after : List Token) (found : converted in_members following ≡ Some (outputs, after)) where
        pub of_members : after ≡ [] → outputs_of_text text ≡ Some outputs
        of_members over = by_members ∙ all_found following outputs after found over

        pub of_more : (after ≡ [] → ⊥) → outputs_of_text text ≡ None
        of_more more = by_members ∙ more_found following outputs after found more
