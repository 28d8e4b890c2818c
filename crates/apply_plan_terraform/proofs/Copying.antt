-- The value that a list of tokens begins with, by its first token, and the tokens of a copy.
use Rattle.std.proofs.Common.{◌≡◌, ℕ, ◌-◌, ◌<◌, List, [], ◌∷◌, ◌++◌, length, Option, Some, None, Result, Ok, Err, refl, sym, ap, ◌∙◌, inl, inr, append_assoc}
use Rattle.std.specs.Prelude.{◌⊎◌, Bool, OnOk}
use Rattle.std.specs.Borrow.{Bor}
use Rattle.json.specs.declared.token.Token as token
use Rattle.json.specs.declared.token.Token.TheVariants as variant
use Rattle.json.specs.Token.{Token}
use Rattle.json.specs.Json.{Json, null, boolean, number, string, array, object, Items, Members, parse_map, items, members, value}
use Rattle.json.specs.Reads.{token_of}
use Rattle.json.specs.Tree.{json_tokens}
use Rattle.json.proofs.Grammar.{value_is, value-begin_array, value-begin_object}

-- what follows of a success
abbrev pub if_ok : {T E P Q : Type 0} (r : Result T E) → (P → Q) → OnOk r P → OnOk r Q
if_ok (Ok x) f p = f p
if_ok (Err e) f p = tt

-- one map after another, and a map that changes nothing
pub fused : {A B C : Type 0} (g : B → C) (f : A → B) (r : Option (A × List Token)) → parse_map g (parse_map f r) ≡ parse_map (λ a. g (f a)) r
fused g f None = refl
fused g f (Some p) = refl

pub unchanged : {A : Type 0} (r : Option (A × List Token)) → r ≡ parse_map (λ a. a) r
unchanged None = refl
unchanged (Some p) = refl

-- tokens after those of a copy
pub after : (old new first rest all : List Token) → new ≡ old ++ first → all ≡ first ++ rest → old ++ all ≡ new ++ rest
after old new first rest all copied whole = ap (λ ts. old ++ ts) whole ∙ sym (append_assoc old first rest) ∙ ap (λ ts. ts ++ rest) (sym copied)

module _ (depth : ℕ) (rest : List Token) where
  pub nothing_left : (ts : List Token) → ts ≡ [] → value depth ts ≡ None
  nothing_left ts none = ap (value depth) none ∙ value_is depth []

  -- a value of one token
  pub one_token : (t : token.Token)
      → ((x : Bor (List ℕ)) × t ≡ variant.String x) ⊎ (((x : Bor (List ℕ)) × t ≡ variant.Number x) ⊎ (((b : Bool) × t ≡ variant.Bool b) ⊎ (t ≡ variant.Null)))
      → (j : Json) × (value depth (token_of t ∷ rest) ≡ Some (j, rest)) × (json_tokens j ≡ token_of t ∷ [])
  one_token t (inl h) = (string h.0.now, ap (λ t. value depth (token_of t ∷ rest)) h.1 ∙ value_is depth _, ap (λ t. token_of t ∷ []) (sym h.1))
  one_token t (inr (inl h)) = (number h.0.now, ap (λ t. value depth (token_of t ∷ rest)) h.1 ∙ value_is depth _, ap (λ t. token_of t ∷ []) (sym h.1))
  one_token t (inr (inr (inl h))) = (boolean h.0, ap (λ t. value depth (token_of t ∷ rest)) h.1 ∙ value_is depth _, ap (λ t. token_of t ∷ []) (sym h.1))
  one_token t (inr (inr (inr is))) = (null, ap (λ t. value depth (token_of t ∷ rest)) is ∙ value_is depth _, ap (λ t. token_of t ∷ []) (sym is))

  -- a token that begins no value
  pub no_value : (t : token.Token) → (t ≡ variant.EndObject) ⊎ ((t ≡ variant.EndArray) ⊎ (((x : Bor (List ℕ)) × t ≡ variant.Key x) ⊎ (t ≡ variant.Bad)))
      → value depth (token_of t ∷ rest) ≡ None
  no_value t (inl is) = ap (λ t. value depth (token_of t ∷ rest)) is ∙ value_is depth _
  no_value t (inr (inl is)) = ap (λ t. value depth (token_of t ∷ rest)) is ∙ value_is depth _
  no_value t (inr (inr (inl h))) = ap (λ t. value depth (token_of t ∷ rest)) h.1 ∙ value_is depth _
  no_value t (inr (inr (inr is))) = ap (λ t. value depth (token_of t ∷ rest)) is ∙ value_is depth _

  -- ---- an array or an object, of which no more than `depth` may nest

  pub array_too_deep : (t : token.Token) → t ≡ variant.BeginArray → depth ≡ 0 → value depth (token_of t ∷ rest) ≡ None
  unfolding value
  array_too_deep t is none = ap (λ t. value depth (token_of t ∷ rest)) is ∙ ap (λ d. value d (Token.begin_array ∷ rest)) none

  pub object_too_deep : (t : token.Token) → t ≡ variant.BeginObject → depth ≡ 0 → value depth (token_of t ∷ rest) ≡ None
  unfolding value
  object_too_deep t is none = ap (λ t. value depth (token_of t ∷ rest)) is ∙ ap (λ d. value d (Token.begin_object ∷ rest)) none

  pub array_is : (t : token.Token) (collected : Option (Items × List Token)) → t ≡ variant.BeginArray → 0 < depth → items (value (depth - 1)) (length rest) rest ≡ collected
      → value depth (token_of t ∷ rest) ≡ parse_map array collected
  array_is t collected is some read = ap (λ t. value depth (token_of t ∷ rest)) is ∙ value-begin_array depth rest some ∙ ap (parse_map array) read

  pub object_is : (t : token.Token) (collected : Option (Members × List Token)) → t ≡ variant.BeginObject → 0 < depth → members (value (depth - 1)) (length rest) rest ≡ collected
      → value depth (token_of t ∷ rest) ≡ parse_map object collected
  object_is t collected is some read = ap (λ t. value depth (token_of t ∷ rest)) is ∙ value-begin_object depth rest some ∙ ap (parse_map object) read
