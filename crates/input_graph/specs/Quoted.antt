-- Quoted names.
use Rattle.std.specs.Prelude.{ℕ, suc, ◌+◌, ◌==◌, ◌&&◌, List, [], ◌∷◌, take, drop, Bool, false, not, if◌then◌else◌, Option, Some, None, option_map, option_and_then}
use Rattle.serde_json.specs.Find.{as_str}
use Rattle.apply_json.specs.Tree.{tree_of}

-- The number of bytes before the first quote that no backslash escapes; none where there is no such
-- quote. The first byte may itself be escaped.
abbrev pub quote_at : (is_escaped : Bool) → List ℕ → Option ℕ
quote_at is_escaped [] = None
quote_at is_escaped (byte ∷ bytes) =
    if not is_escaped && byte == 34 then Some 0 else option_map suc (quote_at (not is_escaped && byte == 92) bytes)

-- The text of a JSON string (RFC 8259, section 7); none where the bytes are no such string.
abbrev pub string_text : List ℕ → Option (List ℕ)
string_text literal = option_and_then as_str (tree_of literal)

-- The number of bytes of the quoted name with which the bytes begin, with both quotes.
abbrev pub name_end : List ℕ → Option ℕ
name_end [] = None
name_end (byte ∷ bytes) = if byte == 34 then option_map (λ place. place + 2) (quote_at false bytes) else None

-- The quoted name with which the bytes begin, and the bytes after it; none where they begin with no
-- JSON string.
abbrev pub quoted : List ℕ → Option (List ℕ × List ℕ)
quoted bytes =
    option_and_then (λ end. option_map (λ name. (name, drop end bytes)) (string_text (take end bytes))) (name_end bytes)
