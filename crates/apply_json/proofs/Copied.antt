-- The tokens that were copied, and the value that was read from them.
use Rattle.std.proofs.Common.{◌≡◌, ℕ, List, [], ◌∷◌, ◌++◌, Option, Some, Result, Ok, Err, option_map, sym, ap, ◌∙◌, append_assoc}
use Rattle.std.specs.Prelude.{OnOk}
use Rattle.std.proofs.lemmas.List.{append_cancel_right}
use Rattle.json.specs.Token.{Token}
use Rattle.json.specs.Json.{value}
use Rattle.json.specs.Print.{print}
use Rattle.json.specs.Tree.{json_tokens}
use Rattle.json.proofs.Unique.Spelling.{value-json_tokens_back}
use Rattle.serde_json.specs.Data as tree
use Rattle.serde_json.specs.Data.{Data}
use Rattle.serde_json.specs.Read.{converted, of_json}
use Rattle.apply_json.specs.Verbatim.{as_verbatim, verbatim}
use Rattle.apply_json.proofs.Turns.{converted_some}

-- a consequence of a success
abbrev pub if_ok : {T E P Q : Type 0} (r : Result T E) → (P → Q) → OnOk r P → OnOk r Q
if_ok (Ok x) f p = f p
if_ok (Err e) f p = tt

-- one more token is copied, and one less is left
pub moved : (old new ts rest : List Token) (t : Token) → new ≡ old ++ t ∷ [] → ts ≡ t ∷ rest → new ++ rest ≡ old ++ ts
moved old new ts rest t grown first = ap (λ us. us ++ rest) grown ∙ append_assoc old (t ∷ []) rest ∙ ap (λ us. old ++ us) (sym first)

-- the raw text of a value is the text of the tokens that were copied
pub own_text_is : (depth : ℕ) (ts rest copied : List Token) (d : Data) (text : List ℕ) → converted of_json (value depth ts) ≡ Some (d, rest) → copied ++ rest ≡ ts → text ≡ print copied
    → converted as_verbatim (value depth ts) ≡ Some (tree.string text, rest)
own_text_is depth ts rest copied d text made all is =
    let of = converted_some of_json (value depth ts) d rest made in
    let tokens : copied ≡ json_tokens of.0 = append_cancel_right copied (json_tokens of.0) rest (all ∙ value-json_tokens_back depth ts rest of.0 of.1) in
    ap (converted as_verbatim) of.1 ∙ ap (λ (x : Option Data). option_map (λ b. (b, rest)) (option_map (λ whole. tree.string (verbatim of.0)) x)) of.2
    ∙ ap (λ t. Some (tree.string t, rest)) (sym (is ∙ ap print tokens))
