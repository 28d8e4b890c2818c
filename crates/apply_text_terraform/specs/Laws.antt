-- Definitions for the laws of lines.
use Rattle.std.specs.Prelude.{ℕ, List, [], ◌∷◌, count_by, ◌==◌, Bool, false, ◌&&◌, ◌||◌, if◌then◌else◌}
use Rattle.apply_model.specs.declared.details.output.Output.{Output}
use Rattle.apply_text_terraform.specs.Escapes.{begins_with}

-- the output, without its value if it is sensitive
abbrev pub without_secret : Output → Output
without_secret output = if output.sensitive then record output { value = [] } else output

-- the number of `<`, `>` and `&` in a text
abbrev pub brackets : List ℕ → ℕ
brackets text = count_by (λ byte. (byte == 60) || (byte == 62) || (byte == 38)) text

-- the byte and the text after it begin with U+2028 or U+2029
abbrev pub is_separator : ℕ → List ℕ → Bool
is_separator byte text = (byte == 226) && (begins_with 128 168 text || begins_with 128 169 text)

-- the text contains U+2028 or U+2029
abbrev pub has_separator : List ℕ → Bool
has_separator [] = false
has_separator (byte ∷ text) = is_separator byte text || has_separator text
