-- The value at the start of a text, by its first token.
use Rattle.std.proofs.Common.{◌≡◌, ℕ, ◌-◌, ◌<◌, List, [], ◌∷◌, length, Option, Some, None, Result, Ok, Err, refl, sym, subst, ap, ap₂, ◌∙◌, arith, inl, inr}
use Rattle.std.specs.Prelude.{◌⊎◌, Bool, IfOk, MatchOption, OnErr, OnOk}
use Rattle.std.specs.Borrow.{Bor}
use Rattle.std.specs.Option.{ok_or}
use Rattle.json.specs.declared.token.Token as token
use Rattle.json.specs.declared.token.Token.TheVariants as variant
use Rattle.json.specs.Token.{Token}
use Rattle.json.specs.Json as json
use Rattle.json.specs.Json.{parse_map, items, members, value}
use Rattle.json.specs.Reads.{token_of}
use Rattle.json.proofs.Grammar.{value_is, value-begin_array, value-begin_object}
use Rattle.serde_json.specs.Data.{Data, null, boolean, number, string, array, object, Num, Items, Members, no_members}
use Rattle.serde_json.specs.Read.{converted, number_of, of_items, of_json, of_members}
use Rattle.apply_json.specs.Verbatim.{TokenStartsNone, TokenStarts, OpensValue}
use Rattle.apply_json.specs.Tokens.{StartsValue, IsNoValue}
use Rattle.apply_json.specs.declared.value_start.ValueStart.{ValueStart}
use Rattle.apply_json.proofs.Turns.{converted-array, converted-object}

-- the first token, if there is one
pub first_token : {E : Type 0} (read : Option token.Token) (t : token.Token) (e : E) (ts rest : List Token) → Ok t ≡ ok_or read e → MatchOption read ((ts ≡ []) × (rest ≡ [])) (λ t. ts ≡ token_of t ∷ rest)
    → ts ≡ token_of t ∷ rest
first_token None t e ts rest found read = absurd (cc)
first_token (Some u) t e ts rest found read = let same : u ≡ t = cc in read ∙ ap (λ k. token_of k ∷ rest) same

-- without the first token the list is shorter
pub shorter : (ts rest : List Token) (k : Token) → ts ≡ k ∷ rest → length rest < length ts
shorter ts rest k first = rw first (omega arith)

module _ (depth : ℕ) (ts rest : List Token) (t : token.Token) (first : ts ≡ token_of t ∷ rest) where
  begins : (u : token.Token) → t ≡ u → ts ≡ token_of u ∷ rest
  begins u is = first ∙ ap (λ k. token_of k ∷ rest) is

  pub read_text : (text : Bor (List ℕ)) → t ≡ variant.String text → converted of_json (value depth ts) ≡ Some (string text.now, rest)
  read_text text is = ap (converted of_json) (ap (value depth) (begins (variant.String text) is) ∙ value_is depth _)

  pub read_boolean : (b : Bool) → t ≡ variant.Bool b → converted of_json (value depth ts) ≡ Some (boolean b, rest)
  read_boolean b is = ap (converted of_json) (ap (value depth) (begins (variant.Bool b) is) ∙ value_is depth _)

  pub read_null : t ≡ variant.Null → converted of_json (value depth ts) ≡ Some (null, rest)
  read_null is = ap (converted of_json) (ap (value depth) (begins variant.Null is) ∙ value_is depth _)

  -- a text, `true`, `false` or `null`
  pub plain : ((x : Bor (List ℕ)) × t ≡ variant.String x) ⊎ (((b : Bool) × t ≡ variant.Bool b) ⊎ (t ≡ variant.Null)) → (d : Data) × converted of_json (value depth ts) ≡ Some (d, rest)
  plain (inl h) = (string h.0.now, read_text h.0 h.1)
  plain (inr (inl h)) = (boolean h.0, read_boolean h.0 h.1)
  plain (inr (inr h)) = (null, read_null h)

  pub read_number : (text : Bor (List ℕ)) (z : Num) → t ≡ variant.Number text → Some z ≡ number_of text.now → converted of_json (value depth ts) ≡ Some (number z, rest)
  read_number text z is found = ap (converted of_json) (ap (value depth) (begins (variant.Number text) is) ∙ value_is depth _) ∙ rw (← found) refl

  pub no_number : (text : Bor (List ℕ)) → t ≡ variant.Number text → None ≡ number_of text.now → converted of_json (value depth ts) ≡ None
  no_number text is found = ap (converted of_json) (ap (value depth) (begins (variant.Number text) is) ∙ value_is depth _) ∙ rw (← found) refl

  -- a token that starts no value
  pub no_value : (t ≡ variant.EndObject) ⊎ ((t ≡ variant.EndArray) ⊎ (((x : Bor (List ℕ)) × t ≡ variant.Key x) ⊎ (t ≡ variant.Bad))) → converted of_json (value depth ts) ≡ None
  no_value (inl is) = ap (converted of_json) (ap (value depth) (begins variant.EndObject is) ∙ value_is depth _)
  no_value (inr (inl is)) = ap (converted of_json) (ap (value depth) (begins variant.EndArray is) ∙ value_is depth _)
  no_value (inr (inr (inl h))) = ap (converted of_json) (ap (value depth) (begins (variant.Key h.0) h.1) ∙ value_is depth _)
  no_value (inr (inr (inr is))) = ap (converted of_json) (ap (value depth) (begins variant.Bad is) ∙ value_is depth _)

  -- ---- an array or an object, nested at most `depth` deep

  pub array_too_deep : depth ≡ 0 → t ≡ variant.BeginArray → converted of_json (value depth ts) ≡ None
  unfolding value
  array_too_deep none is = ap (converted of_json) (ap₂ value none (begins variant.BeginArray is))

  pub object_too_deep : depth ≡ 0 → t ≡ variant.BeginObject → converted of_json (value depth ts) ≡ None
  unfolding value
  object_too_deep none is = ap (converted of_json) (ap₂ value none (begins variant.BeginObject is))

  -- the array or object as JSON, before it becomes a tree
  pub opened_array : 0 < depth → t ≡ variant.BeginArray → value depth ts ≡ parse_map json.array (items (value (depth - 1)) (length rest) rest)
  opened_array some is = ap (value depth) (begins variant.BeginArray is) ∙ value-begin_array depth rest some

  pub opened_object : 0 < depth → t ≡ variant.BeginObject → value depth ts ≡ parse_map json.object (members (value (depth - 1)) (length rest) rest)
  opened_object some is = ap (value depth) (begins variant.BeginObject is) ∙ value-begin_object depth rest some

  pub read_array : 0 < depth → t ≡ variant.BeginArray → converted of_json (value depth ts) ≡ parse_map array (converted of_items (items (value (depth - 1)) (length rest) rest))
  read_array some is =
      ap (converted of_json) (ap (value depth) (begins variant.BeginArray is) ∙ value-begin_array depth rest some)
      ∙ converted-array (items (value (depth - 1)) (length rest) rest)

  pub array_refused : 0 < depth → t ≡ variant.BeginArray → converted of_items (items (value (depth - 1)) (length rest) rest) ≡ None → converted of_json (value depth ts) ≡ None
  array_refused some is none = read_array some is ∙ ap (parse_map array) none

  pub array_made : (ds : Items) (r : List Token) → 0 < depth → t ≡ variant.BeginArray → converted of_items (items (value (depth - 1)) (length rest) rest) ≡ Some (ds, r)
      → converted of_json (value depth ts) ≡ Some (array ds, r)
  array_made ds r some is made = read_array some is ∙ ap (parse_map array) made

  pub read_object : 0 < depth → t ≡ variant.BeginObject → converted of_json (value depth ts) ≡ parse_map object (converted (λ ms. of_members ms no_members) (members (value (depth - 1)) (length rest) rest))
  read_object some is =
      ap (converted of_json) (ap (value depth) (begins variant.BeginObject is) ∙ value-begin_object depth rest some)
      ∙ converted-object (members (value (depth - 1)) (length rest) rest)

  pub object_refused : 0 < depth → t ≡ variant.BeginObject → converted (λ ms. of_members ms no_members) (members (value (depth - 1)) (length rest) rest) ≡ None → converted of_json (value depth ts) ≡ None
  object_refused some is none = read_object some is ∙ ap (parse_map object) none

  pub object_made : (ms : Members) (r : List Token) → 0 < depth → t ≡ variant.BeginObject → converted (λ found. of_members found no_members) (members (value (depth - 1)) (length rest) rest) ≡ Some (ms, r)
      → converted of_json (value depth ts) ≡ Some (object ms, r)
  object_made ms r some is made = read_object some is ∙ ap (parse_map object) made

  -- ---- facts about the token alone

  pub begun_there : {E : Type 0} (r : Result ValueStart E) → IfOk r (λ value_start. TokenStarts value_start depth (token_of t)) → IfOk r (λ value_start. StartsValue value_start depth ts rest)
  begun_there (Ok value_start) said = subst (λ us. StartsValue value_start depth us rest) (sym first) (said rest).0
  begun_there (Err e) said = tt

  pub opened_there : {E : Type 0} (r : Result ValueStart E) → IfOk r (λ value_start. TokenStarts value_start depth (token_of t)) → IfOk r (λ value_start. OpensValue value_start depth ts rest)
  opened_there (Ok value_start) said = subst (λ us. OpensValue value_start depth us rest) (sym first) (said rest).1
  opened_there (Err e) said = tt

  pub none_there : {E : Type 0} (r : Result ValueStart E) → OnErr r (TokenStartsNone depth (token_of t)) → OnErr r (IsNoValue depth ts)
  none_there (Ok value_start) said = tt
  none_there (Err e) said = subst (IsNoValue depth) (sym first) (said rest)

  pub shorter_there : {E : Type 0} (r : Result ValueStart E) → OnOk r (length rest < length ts)
  shorter_there (Ok value_start) = shorter ts rest (token_of t) first
  shorter_there (Err e) = tt
