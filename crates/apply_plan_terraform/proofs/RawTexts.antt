-- Which values are stored as JSON texts.
use Rattle.std.proofs.Common.{Global, String as Owned, string_bytes, rules, ◌≡◌, ℕ, List, ◌∷◌, Bool, true, false, Option, Some, None, refl, sym, ap, ◌∙◌}
use Rattle.std.specs.Option.{option_map_or}
use Rattle.json.specs.declared.token.Token as token
use Rattle.json.specs.declared.token.Token.TheVariants as variant
use Rattle.json.specs.Token.{Token}
use Rattle.json.specs.Json.{Json, null, boolean, number, string, array, object, Items, Members, member, parse_map, value}
use Rattle.json.specs.Reads.{token_of}
use Rattle.json.proofs.Grammar.{value_is}
use Rattle.serde_json.specs.Data as tree
use Rattle.serde_json.specs.Data.{put}
use Rattle.serde_json.specs.View.{view}
use Rattle.serde_json.specs.declared.value.Value.{String, the_lemmas}
use Rattle.apply_plan_terraform.specs.Texts.{is_text, members_with_texts, part_named, text_of, with_texts}
use Rattle.apply_plan_terraform.specs.declared.texts.part.Part.{Part}
use Rattle.apply_plan_terraform.specs.declared.texts.part.Part.TheVariants.{Text}

pub shallow_text : (text : Owned Global) → view (String text) ≡ tree.string (string_bytes text)
shallow_text text = search (rules, the_lemmas)

-- parts whose values are always stored as JSON text
pub stored_whole : (part : Part) (j : Json) → true ≡ is_text part → with_texts part j ≡ tree.string (text_of j)
stored_whole part null stored = refl
stored_whole part (boolean b) stored = refl
stored_whole part (number s) stored = refl
stored_whole part (string s) stored = refl
stored_whole part (array js) stored = refl
stored_whole part (object ms) stored = rw (← stored) refl

-- an object whose members are read
pub looked_into : (part : Part) (ms : Members) → false ≡ is_text part → with_texts part (object ms) ≡ tree.object (members_with_texts part ms tree.no_members)
looked_into part ms not = rw (← not) refl

abbrev is_object : Json → Bool
is_object null = false
is_object (boolean b) = false
is_object (number s) = false
is_object (string s) = false
is_object (array js) = false
is_object (object ms) = true

abbrev is_of_object : Option (Json × List Token) → Bool
is_of_object collected = option_map_or (λ p. is_object p.0) collected false

no_object_in_array : (collected : Option (Items × List Token)) → is_of_object (parse_map array collected) ≡ false
no_object_in_array None = refl
no_object_in_array (Some p) = refl

other_token : (depth : ℕ) (t : token.Token) (rest : List Token) → (t ≡ variant.BeginObject → ⊥) → is_of_object (value depth (token_of t ∷ rest)) ≡ false
other_token depth variant.BeginObject rest other = absurd (other refl)
other_token depth variant.EndObject rest other = ap is_of_object (value_is depth _)
other_token depth variant.BeginArray rest other = ap is_of_object (value_is depth _) ∙ no_object_in_array _
other_token depth variant.EndArray rest other = ap is_of_object (value_is depth _)
other_token depth (variant.Key s) rest other = ap is_of_object (value_is depth _)
other_token depth (variant.String s) rest other = ap is_of_object (value_is depth _)
other_token depth (variant.Number s) rest other = ap is_of_object (value_is depth _)
other_token depth (variant.Bool b) rest other = ap is_of_object (value_is depth _)
other_token depth variant.Null rest other = ap is_of_object (value_is depth _)
other_token depth variant.Bad rest other = ap is_of_object (value_is depth _)

no_object : (part : Part) (j : Json) → is_object j ≡ false → with_texts part j ≡ tree.string (text_of j)
no_object part null is = refl
no_object part (boolean b) is = refl
no_object part (number s) is = refl
no_object part (string s) is = refl
no_object part (array js) is = refl
no_object part (object ms) is = absurd cc

-- a value that is no object
pub stored_other : (part : Part) (depth : ℕ) (t : token.Token) (rest after : List Token) (j : Json) → (t ≡ variant.BeginObject → ⊥)
    → value depth (token_of t ∷ rest) ≡ Some (j, after) → with_texts part j ≡ tree.string (text_of j)
stored_other part depth t rest after j other read = no_object part j (ap is_of_object (sym read) ∙ other_token depth t rest other)

-- a member that is read, and a member that is skipped
pub named : (part inner : Part) (name : List ℕ) (j : Json) (ms : Members) (collected new : tree.Members) → Some inner ≡ part_named part name → new ≡ put name (with_texts inner j) collected
    → members_with_texts part (member name j ms) collected ≡ members_with_texts part ms new
named part inner name j ms collected new is grown =
    ap (λ o. members_with_texts part ms (option_map_or (λ inner. put name (with_texts inner j) collected) o collected)) (sym is) ∙ ap (members_with_texts part ms) (sym grown)

pub not_named : (part : Part) (name : List ℕ) (j : Json) (ms : Members) (collected : tree.Members) → None ≡ part_named part name
    → members_with_texts part (member name j ms) collected ≡ members_with_texts part ms collected
not_named part name j ms collected is = ap (λ o. members_with_texts part ms (option_map_or (λ inner. put name (with_texts inner j) collected) o collected)) (sym is)

pub raw_text : (j : Json) → with_texts Text j ≡ tree.string (text_of j)
raw_text j = stored_whole Text j refl
