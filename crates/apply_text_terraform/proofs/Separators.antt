-- The characters U+2028 and U+2029 are in no line.
use Rattle.std.proofs.Common.{◌≡◌, ℕ, ◌==◌, List, [], ◌∷◌, ◌++◌, codes, cond, drop, Bool, true, false, refl, ap, ap₂, ◌∙◌}
use Rattle.std.specs.Prelude.{◌&&◌, ◌||◌}
use Rattle.apply_text_terraform.specs.Escapes.{begins_with, escaped}
use Rattle.apply_text_terraform.specs.Laws.{has_separator, is_separator}
use Rattle.apply_text_terraform.specs.Lines.{line_of_text}

or_right : (a b : Bool) → (a || b) ≡ false → b ≡ false
or_right true b e = absurd cc
or_right false b e = e

-- a flag that excludes two conditions one by one excludes both at once
neither : (p a b : Bool) → (p && a) ≡ false → (p && b) ≡ false → (p && (a || b)) ≡ false
neither false a b h k = refl
neither true true b h k = h
neither true false b h k = k

-- a text without separators has none after its first two bytes
separator-drop : (text : List ℕ) → has_separator text ≡ false → has_separator (drop 2 text) ≡ false
separator-drop [] none = refl
separator-drop (a ∷ []) none = refl
separator-drop (a ∷ b ∷ text) none =
    or_right (is_separator b text) (has_separator text) (or_right (is_separator a (b ∷ text)) (has_separator (b ∷ text)) none)

in_escaped : (text : List ℕ) → has_separator (escaped text) ≡ false
in_escaped [] = refl
in_escaped (byte ∷ bytes) = of_tests (byte == 60) (byte == 62) (byte == 38) ((byte == 226) && begins_with 128 168 (escaped bytes)) ((byte == 226) && begins_with 128 169 (escaped bytes)) refl refl (in_escaped bytes)
  where
    of_tests : (a b c d e : Bool) → ((byte == 226) && begins_with 128 168 (escaped bytes)) ≡ d → ((byte == 226) && begins_with 128 169 (escaped bytes)) ≡ e
        → has_separator (escaped bytes) ≡ false
        → has_separator (cond a (codes "\\u003c" ++ escaped bytes) (cond b (codes "\\u003e" ++ escaped bytes) (cond c (codes "\\u0026" ++ escaped bytes) (cond d (codes "\\u2028" ++ drop 2 (escaped bytes)) (cond e (codes "\\u2029" ++ drop 2 (escaped bytes)) (byte ∷ escaped bytes)))))) ≡ false
    of_tests true b c d e at_d at_e rest = rest
    of_tests false true c d e at_d at_e rest = rest
    of_tests false false true d e at_d at_e rest = rest
    of_tests false false false true e at_d at_e rest = separator-drop (escaped bytes) rest
    of_tests false false false false true at_d at_e rest = separator-drop (escaped bytes) rest
    of_tests false false false false false at_d at_e rest =
        ap₂ (λ a b. a || b) (neither (byte == 226) (begins_with 128 168 (escaped bytes)) (begins_with 128 169 (escaped bytes)) at_d at_e) rest

-- a line feed ends neither
feed_behind : (text : List ℕ) → has_separator (text ++ 10 ∷ []) ≡ has_separator text
feed_behind [] = refl
feed_behind (a ∷ []) = refl
feed_behind (a ∷ b ∷ []) = refl
feed_behind (a ∷ b ∷ c ∷ text) = ap (λ rest. is_separator a (b ∷ c ∷ text) || rest) (feed_behind (b ∷ c ∷ text))

pub no_separator : (text : List ℕ) → has_separator (line_of_text text) ≡ false
no_separator text = feed_behind (escaped text) ∙ in_escaped text
