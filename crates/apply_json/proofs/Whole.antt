-- A text of one value, with nothing after it.
use Rattle.std.proofs.Common.{◌≡◌, ℕ, List, [], ◌∷◌, Option, Some, None, option_map, option_and_then, refl, sym, ap, ◌∙◌}
use Rattle.json.specs.Token.{Token}
use Rattle.json.specs.Json.{Json, if_last, value}
use Rattle.json.specs.Lex.{tokens}
use Rattle.serde_json.specs.Data.{Data}
use Rattle.serde_json.specs.Read.{converted, max_depth}
use Rattle.apply_json.proofs.Turns.{converted_some, refused}

-- the value, if nothing follows it
abbrev pub alone : (Json → Option Data) → Option (Json × List Token) → Option Data
alone f o = option_and_then f (option_and_then (λ p. if_last p.0 p.1) o)

not_last : (j : Json) (r : List Token) → (r ≡ [] → ⊥) → if_last j r ≡ None
not_last j [] more = absurd (more refl)
not_last j (t ∷ ts) more = refl

none_at : (f : Json → Option Data) (j : Json) (r : List Token) → option_map {U = Data × List Token} (λ d. (d, r)) (f j) ≡ None → option_and_then f (if_last j r) ≡ None
none_at f j [] none = refused [] (f j) none
none_at f j (t ∷ ts) none = refl

no_value : (f : Json → Option Data) (o : Option (Json × List Token)) → converted f o ≡ None → alone f o ≡ None
no_value f None none = refl
no_value f (Some p) none = none_at f p.0 p.1 none

module _ (text : List ℕ) (reader : List Token) (all : reader ≡ tokens text) where
  pub read_alone : (f : Json → Option Data) (d : Data) (rest : List Token) → converted f (value max_depth reader) ≡ Some (d, rest) → rest ≡ [] → alone f (value max_depth (tokens text)) ≡ Some d
  read_alone f d rest read over =
      let j = converted_some f (value max_depth reader) d rest read in
      ap (λ ts. alone f (value max_depth ts)) (sym all) ∙ ap (alone f) (j.1 ∙ ap (λ ts. Some (j.0, ts)) over) ∙ j.2

  pub read_more : (f g : Json → Option Data) (d : Data) (rest : List Token) → converted f (value max_depth reader) ≡ Some (d, rest) → (rest ≡ [] → ⊥) → alone g (value max_depth (tokens text)) ≡ None
  read_more f g d rest read more =
      let j = converted_some f (value max_depth reader) d rest read in
      ap (λ ts. alone g (value max_depth ts)) (sym all) ∙ ap (alone g) j.1 ∙ ap (option_and_then g) (not_last j.0 rest more)

  pub read_none : (f : Json → Option Data) → converted f (value max_depth reader) ≡ None → alone f (value max_depth (tokens text)) ≡ None
  read_none f none = ap (λ ts. alone f (value max_depth ts)) (sym all) ∙ no_value f (value max_depth reader) none
