-- The grammar's loop over members, one output at a time, after the outputs that were found.
use Rattle.std.proofs.Common.{◌≡◌, ℕ, zero, suc, ◌-◌, ◌<◌, ◌≤◌, List, length, Option, Some, None, option_map, option_and_then, refl, ap, ◌∙◌}
use Rattle.json.specs.Token.{Token}
use Rattle.json.specs.Json as json
use Rattle.json.specs.Json.{Parse, parse_map, read_key, members}
use Rattle.json.proofs.Grammar.{members_end, members_no_key, members_more}
use Rattle.serde_json.specs.Data.{Data}
use Rattle.serde_json.specs.Read.{converted, of_json}
use Rattle.apply_json.specs.Verbatim.{mixed_tree}
use Rattle.apply_json.proofs.Turns.{converted_some, refused}
use Rattle.apply_json.proofs.VerbatimValues as verbatim
use Rattle.stream_record_lines.specs.Outputs.{StatedOutput, is_json, output_named, outputs_in, put_output}

-- outputs that go on with what the tree of the first one is
abbrev continued : (k : List ℕ) → json.Members → List StatedOutput → Option Data → Option (List StatedOutput)
continued k ms old d = option_and_then (λ d. outputs_in ms (put_output (output_named k d) old)) d

with_output : (k : List ℕ) (j : json.Json) (d : Data) (old : List StatedOutput) → mixed_tree is_json j ≡ Some d → (o : Option (json.Members × List Token))
    → converted (λ ms. outputs_in ms old) (parse_map (json.member k j) o) ≡ converted (λ ms. outputs_in ms (put_output (output_named k d) old)) o
with_output k j d old e None = refl
with_output k j d old e (Some p) = ap (λ (x : Option Data). option_map (λ b. (b, p.1)) (continued k p.0 old x)) e

without_output : (k : List ℕ) (j : json.Json) (old : List StatedOutput) → mixed_tree is_json j ≡ None → (o : Option (json.Members × List Token))
    → converted (λ ms. outputs_in ms old) (parse_map (json.member k j) o) ≡ None
without_output k j old e None = refl
without_output k j old e (Some p) = ap (λ (x : Option Data). option_map (λ b. (b, p.1)) (continued k p.0 old x)) e

module _ (p : Parse json.Json) (old : List StatedOutput) where
  -- one more
  pub output_read : (n : ℕ) (k : List ℕ) (ts s r : List Token) (d : Data) → 0 < n → read_key ts ≡ Some (Some k, s) → converted (mixed_tree is_json) (p s) ≡ Some (d, r)
      → converted (λ ms. outputs_in ms old) (members p n ts) ≡ converted (λ ms. outputs_in ms (put_output (output_named k d) old)) (members p (n - 1) r)
  output_read n k ts s r d some key e =
      let j = converted_some (mixed_tree is_json) (p s) d r e in
      ap (converted (λ ms. outputs_in ms old)) (members_more p n k ts s r j.0 some key j.1) ∙ with_output k j.0 d old j.2 _

  no_output : (k : List ℕ) (more : Parse json.Members) (o : Option (json.Json × List Token)) → converted (mixed_tree is_json) o ≡ None
      → converted (λ ms. outputs_in ms old) (option_and_then (λ q. parse_map (json.member k q.0) (more q.1)) o) ≡ None
  no_output k more None e = refl
  no_output k more (Some q) e = without_output k q.0 old (refused q.1 (mixed_tree is_json q.0) e) (more q.1)

  -- no value after the key
  pub output_refused : (n : ℕ) (k : List ℕ) (ts s : List Token) → read_key ts ≡ Some (Some k, s) → converted of_json (p s) ≡ None → converted (λ ms. outputs_in ms old) (members p n ts) ≡ None
  unfolding members
  output_refused zero k ts s key e = refl
  output_refused (suc n) k ts s key e = rw key (no_output k (members p n) (p s) (verbatim.no_item is_json (p s) e))

  -- no key is next
  pub key_refused : (n : ℕ) (ts : List Token) → read_key ts ≡ None → converted (λ ms. outputs_in ms old) (members p n ts) ≡ None
  key_refused n ts e = ap (converted (λ ms. outputs_in ms old)) (members_no_key p n ts e)

  -- the end
  pub outputs_over : (n : ℕ) (ts r : List Token) → length ts ≤ n → read_key ts ≡ Some (None, r) → converted (λ ms. outputs_in ms old) (members p n ts) ≡ Some (old, r)
  outputs_over n ts r enough e = ap (converted (λ ms. outputs_in ms old)) (members_end p n ts r enough e)
