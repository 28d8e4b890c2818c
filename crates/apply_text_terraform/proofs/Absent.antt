-- What is in no line.
use Rattle.std.proofs.Common.{◌≡◌, ℕ, ◌+◌, ◌==◌, List, [], ◌∷◌, ◌++◌, codes, cond, drop, length, map, Bool, true, false, refl, sym, ap, ap₂, ◌∙◌, arith}
use Rattle.std.specs.Prelude.{◌&&◌, ◌||◌, decimal}
use Rattle.std.proofs.lemmas.List.Sums.{sum_by-append}
use Rattle.json.specs.Print.{quoted}
use Rattle.serde_json.specs.Data.{Data}
use Rattle.serde_json.specs.Written.{compact_text}
use Rattle.apply_text.specs.Laws.{line_feeds}
use Rattle.apply_text.proofs.Feeds as default
use Rattle.apply_model.specs.declared.details.output.Output.{Output}
use Rattle.apply_text_terraform.specs.Escapes.{begins_with, escaped}
use Rattle.apply_text_terraform.specs.Laws.{brackets, without_secret}
use Rattle.apply_text_terraform.specs.Lines.{line_of, line_of_text, outputs_text}
use Rattle.apply_text_terraform.specs.UtcTimestamp.{precise_timestamp_text}
use Rattle.apply_text_terraform.specs.Outputs.{output_text, outputs_from, outputs_message}

-- ---- brackets

brackets-append : (xs ys : List ℕ) → brackets (xs ++ ys) ≡ brackets xs + brackets ys
brackets-append xs ys = sum_by-append (λ byte. cond ((byte == 60) || (byte == 62) || (byte == 38)) 1 0) xs ys

-- a text without separators has none after its first two bytes
brackets-drop : (text : List ℕ) → brackets text ≡ 0 → brackets (drop 2 text) ≡ 0
brackets-drop [] none = refl
brackets-drop (a ∷ []) none = refl
brackets-drop (a ∷ b ∷ text) none = let rest : brackets text ≡ 0 = omega (arith, brackets-append (a ∷ b ∷ []) text, none) in rest

no_bracket : (byte : ℕ) → (byte == 60) ≡ false → (byte == 62) ≡ false → (byte == 38) ≡ false → brackets (byte ∷ []) ≡ 0
no_bracket byte h60 h62 h38 = ap₂ (λ b c. 0 + cond (b || c) 1 0) (ap₂ (λ a b. a || b) h60 h62) h38

in_escaped : (text : List ℕ) → brackets (escaped text) ≡ 0
in_escaped [] = refl
in_escaped (byte ∷ bytes) = of_tests (byte == 60) (byte == 62) (byte == 38) ((byte == 226) && begins_with 128 168 (escaped bytes)) ((byte == 226) && begins_with 128 169 (escaped bytes)) refl refl refl (in_escaped bytes)
  where
    of_tests : (a b c d e : Bool) → (byte == 60) ≡ a → (byte == 62) ≡ b → (byte == 38) ≡ c → brackets (escaped bytes) ≡ 0
        → brackets (cond a (codes "\\u003c" ++ escaped bytes) (cond b (codes "\\u003e" ++ escaped bytes) (cond c (codes "\\u0026" ++ escaped bytes) (cond d (codes "\\u2028" ++ drop 2 (escaped bytes)) (cond e (codes "\\u2029" ++ drop 2 (escaped bytes)) (byte ∷ escaped bytes)))))) ≡ 0
    of_tests true b c d e at_a at_b at_c rest = rest
    of_tests false true c d e at_a at_b at_c rest = rest
    of_tests false false true d e at_a at_b at_c rest = rest
    of_tests false false false true e at_a at_b at_c rest = brackets-drop (escaped bytes) rest
    of_tests false false false false true at_a at_b at_c rest = brackets-drop (escaped bytes) rest
    of_tests false false false false false at_a at_b at_c rest = omega (arith, brackets-append (byte ∷ []) (escaped bytes), no_bracket byte at_a at_b at_c, rest)

pub in_line : (text : List ℕ) → brackets (line_of_text text) ≡ 0
in_line text = omega (arith, brackets-append (escaped text) (10 ∷ []), in_escaped text)

-- ---- line feeds

feeds-append : (xs ys : List ℕ) → line_feeds (xs ++ ys) ≡ line_feeds xs + line_feeds ys
feeds-append xs ys = sum_by-append (λ byte. cond (byte == 10) 1 0) xs ys

feeds-drop : (text : List ℕ) → line_feeds text ≡ 0 → line_feeds (drop 2 text) ≡ 0
feeds-drop [] none = refl
feeds-drop (a ∷ []) none = refl
feeds-drop (a ∷ b ∷ text) none = let rest : line_feeds text ≡ 0 = omega (arith, feeds-append (a ∷ b ∷ []) text, none) in rest

feeds_in_escaped : (text : List ℕ) → line_feeds text ≡ 0 → line_feeds (escaped text) ≡ 0
feeds_in_escaped [] none = refl
feeds_in_escaped (byte ∷ bytes) none =
    of_tests (byte == 60) (byte == 62) (byte == 38) ((byte == 226) && begins_with 128 168 (escaped bytes)) ((byte == 226) && begins_with 128 169 (escaped bytes))
    (omega (arith, feeds-append (byte ∷ []) bytes, none)) (feeds_in_escaped bytes (omega (arith, feeds-append (byte ∷ []) bytes, none)))
  where
    of_tests : (a b c d e : Bool) → line_feeds (byte ∷ []) ≡ 0 → line_feeds (escaped bytes) ≡ 0
        → line_feeds (cond a (codes "\\u003c" ++ escaped bytes) (cond b (codes "\\u003e" ++ escaped bytes) (cond c (codes "\\u0026" ++ escaped bytes) (cond d (codes "\\u2028" ++ drop 2 (escaped bytes)) (cond e (codes "\\u2029" ++ drop 2 (escaped bytes)) (byte ∷ escaped bytes)))))) ≡ 0
    of_tests true b c d e plain rest = rest
    of_tests false true c d e plain rest = rest
    of_tests false false true d e plain rest = rest
    of_tests false false false true e plain rest = feeds-drop (escaped bytes) rest
    of_tests false false false false true plain rest = feeds-drop (escaped bytes) rest
    of_tests false false false false false plain rest = omega (arith, feeds-append (byte ∷ []) (escaped bytes), plain, rest)

pub feeds_in_line : (d : Data) → line_feeds (line_of d) ≡ 1
feeds_in_line d =
    let none : line_feeds (compact_text d) ≡ 0 = omega (arith, default.in_line d, feeds-append (compact_text d) (10 ∷ [])) in
    omega (arith, feeds-append (escaped (compact_text d)) (10 ∷ []), feeds_in_escaped (compact_text d) none)

-- ---- values of sensitive outputs

without : (output : Output) → output_text output ≡ output_text (without_secret output)
without output = of_test output.sensitive refl
  where
    of_test : (b : Bool) → output.sensitive ≡ b → output_text output ≡ output_text (without_secret output)
    of_test true is = rw is refl
    of_test false is = rw is refl

same_name : (output : Output) → output.name ≡ (without_secret output).name
same_name output = of_test output.sensitive
  where
    of_test : (b : Bool) → output.name ≡ (cond b (record output { value = [] }) output).name
    of_test true = refl
    of_test false = refl

all_without : (before : List ℕ) (outputs : List Output) → outputs_from before outputs ≡ outputs_from before (map without_secret outputs)
all_without before [] = refl
all_without before (output ∷ outputs) =
    ap (λ rest. before ++ rest) (ap₂ (λ name rest. quoted name ++ rest) (same_name output) (ap₂ (λ text rest. text ++ rest) (without output) (all_without (codes ",") outputs)))

as_many : (outputs : List Output) → length outputs ≡ length (map without_secret outputs)
as_many [] = refl
as_many (output ∷ outputs) = omega (arith, as_many outputs)

message_without : (timestamp : List ℕ) (outputs : List Output) → outputs_message timestamp outputs ≡ outputs_message timestamp (map without_secret outputs)
message_without timestamp outputs =
    ap₂ (λ n text. codes "{\"@level\":\"info\",\"@message\":\"Outputs: " ++ (decimal n ++ (codes "\",\"@module\":\"terraform.ui\",\"@timestamp\":\"" ++ (timestamp ++ (codes "\",\"outputs\":{" ++ (text ++ codes "},\"type\":\"outputs\"}"))))))
    (as_many outputs) (all_without [] outputs)

pub secrets : (start clock : ℕ) (one other : List Output) → map without_secret one ≡ map without_secret other → outputs_text start clock one ≡ outputs_text start clock other
secrets start clock one other same =
    let timestamp = precise_timestamp_text (start + clock) in
    ap line_of_text (message_without timestamp one ∙ ap (outputs_message timestamp) same ∙ sym (message_without timestamp other))
