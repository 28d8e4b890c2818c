-- The escapes of a line. Go's encoder, and Terraform with it, escapes characters that have a
-- meaning in HTML or in a script.
use Rattle.std.specs.Prelude.{ℕ, List, [], ◌∷◌, ◌++◌, codes, drop, slice_index, ◌==◌, Bool, ◌&&◌, ◌||◌, if◌then◌else◌}

-- the text begins with these two bytes
abbrev pub begins_with : (first second : ℕ) → List ℕ → Bool
begins_with first second text = (slice_index text 0 == first) && (slice_index text 1 == second)

-- puts a byte before a text that is escaped already; U+2028 is the bytes 226, 128, 168, and U+2029
-- is 226, 128, 169
abbrev pub escaped_onto : ℕ → List ℕ → List ℕ
escaped_onto byte text =
    if byte == 60 then codes "\\u003c" ++ text
    else if byte == 62 then codes "\\u003e" ++ text
    else if byte == 38 then codes "\\u0026" ++ text
    else if (byte == 226) && begins_with 128 168 text then codes "\\u2028" ++ drop 2 text
    else if (byte == 226) && begins_with 128 169 text then codes "\\u2029" ++ drop 2 text
    else byte ∷ text

-- the text with each `<`, `>`, `&`, U+2028 and U+2029 escaped
abbrev pub escaped : List ℕ → List ℕ
escaped [] = []
escaped (byte ∷ bytes) = escaped_onto byte (escaped bytes)

-- the byte begins a character that may need an escape
abbrev pub is_special : ℕ → Bool
is_special byte = (byte == 60) || (byte == 62) || (byte == 38) || (byte == 226)
