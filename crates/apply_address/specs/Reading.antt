-- The parts of a text that is an address, read from its first byte on. Each reader returns the
-- value at the front of a text, and the text after that value. It returns none where the text
-- begins with no such value.
use Rattle.std.specs.Prelude.{ℕ, zero, suc, ◌-◌, ◌^◌, ◌==◌, nat_lt, Bool, ◌||◌, ◌&&◌, not, slice_index, if◌then◌else◌, List, [], ◌++◌, codes, length, take, drop, slice_get, Option, Some, None, option_map, ℤ, pos, negsuc}
use Rattle.std.specs.Char.{digit_value, encode_utf8}
use Rattle.std.specs.Fmt.{signed_decimal}
use Rattle.std.specs.List.{before_first, after_first, position_or_len, list_all}
use Rattle.std.specs.Option.{option_map_or, option_or}
use Rattle.std.specs.Str.{chars, bytes_eq}
use Rattle.std.specs.Str.Parse.{digits_value, signed_digits_value}
use lib.Utf8.{scalar}
use Rattle.apply_model.specs.declared.plan.key.Key.{Key}
use Rattle.apply_model.specs.declared.plan.key.Key.TheVariants as key
use Rattle.apply_model.specs.Plan.Address.{after_prefix}
use Rattle.apply_address.specs.Names.{is_delimiter}
use Rattle.apply_address.specs.Parts.{Parts}
use Rattle.apply_address.specs.Pieces.{escaped_character, is_doubled}

infixl 10 ◌>>=◌
abbrev pub ◌>>=◌ : {A B : Type 0} → Option A → (A → Option B) → Option B
None >>= f = None
(Some x) >>= f = f x

-- ---- texts between quotes

-- The first character.
unfoldable pub character_at : List ℕ → Option (ℕ × List ℕ)
character_at text = option_map (λ c. (c, drop (length (encode_utf8 c)) text)) (slice_get (chars text) 0)

-- The value of hexadecimal digits.
unfoldable pub hexadecimal : List ℕ → Option ℕ
hexadecimal digits = if list_all (λ digit. nat_lt (digit_value digit) 16) digits then Some (digits_value 16 digits) else None

-- A character by `count` hexadecimal digits of its code.
unfoldable pub code_at : (count : ℕ) → List ℕ → Option (ℕ × List ℕ)
code_at count text =
    if nat_lt (length text) count then None
    else (hexadecimal (take count text) >>= λ code. if scalar code then Some (code, drop count text) else None)

-- An escape after its backslash.
unfoldable pub escape_at : List ℕ → Option (ℕ × List ℕ)
escape_at text = character_at text >>= λ letter.
    if letter.0 == 117 then code_at 4 letter.1
    else if letter.0 == 85 then code_at 8 letter.1
    else option_map (λ character. (character, letter.1)) (escaped_character letter.0)

-- A piece of a text.
unfoldable pub piece_at : List ℕ → Option (ℕ × List ℕ)
piece_at text = character_at text >>= λ first.
    if first.0 == 34 then None else if first.0 == 92 then escape_at first.1 else Some first

-- The text after the pieces at the front, at most `most` pieces.
unfoldable pub after_pieces : (most : ℕ) → List ℕ → List ℕ
after_pieces zero text = text
after_pieces (suc most) text = option_map_or (λ piece. after_pieces most piece.1) (piece_at text) text

-- The characters of the pieces at the front, at most `most` pieces.
unfoldable pub unescaped_pieces : (most : ℕ) → List ℕ → List ℕ
unescaped_pieces zero text = []
unescaped_pieces (suc most) text =
    option_map_or (λ piece. (if is_doubled text then [] else encode_utf8 piece.0) ++ unescaped_pieces most piece.1) (piece_at text) []

-- The characters of the pieces at the front.
abbrev pub unescaped_in : List ℕ → List ℕ
unescaped_in text = unescaped_pieces (length text) text

-- ---- keys

-- JSON writes the number so: no plus, no zero before other digits, and no minus before a zero.
abbrev pub is_canonical : List ℕ → Bool
is_canonical text =
    not (slice_index text 0 == 43 || (slice_index text 0 == 48 && nat_lt 1 (length text)) || (slice_index text 0 == 45 && slice_index text 1 == 48))

-- The number fits 64 bits with a sign.
abbrev pub is_64_bits : ℤ → Bool
is_64_bits (pos number) = nat_lt number (2 ^ 63)
is_64_bits (negsuc number) = nat_lt number (2 ^ 63)

-- The whole number that the text writes as JSON does.
unfoldable pub whole_number : List ℕ → Option ℤ
whole_number text =
    if is_64_bits (signed_digits_value 10 text) && bytes_eq (signed_decimal (signed_digits_value 10 text)) text
    then Some (signed_digits_value 10 text)
    else None

-- The texts before and after the first `]`.
unfoldable pub cut_at_bracket : List ℕ → Option (List ℕ × List ℕ)
cut_at_bracket text =
    if nat_lt (position_or_len (λ byte. byte == 93) text) (length text)
    then Some (before_first (λ byte. byte == 93) text, after_first (λ byte. byte == 93) text)
    else None

-- A number and the bracket after it.
unfoldable pub number_key_at : List ℕ → Option (Key × List ℕ)
number_key_at text = cut_at_bracket text >>= λ cut. option_map (λ number. (key.Number number, cut.1)) (whole_number cut.0)

-- A text, and the quote and the bracket after it.
unfoldable pub text_key_at : List ℕ → Option (Key × List ℕ)
text_key_at text = option_map (λ remainder. (key.Name (unescaped_in text), remainder)) (after_prefix (codes "\"]") (after_pieces (length text) text))

-- A key, or no key where the text does not begin with a bracket.
unfoldable pub key_at : List ℕ → Option (Key × List ℕ)
key_at text = option_map_or text_key_at (after_prefix (codes "[\"") text) (option_map_or number_key_at (after_prefix (codes "[") text) (Some (key.None, text)))

-- ---- names

-- A name: the bytes before the first delimiter.
unfoldable pub name_at : List ℕ → Option (List ℕ × List ℕ)
name_at text = if position_or_len is_delimiter text == 0 then None else Some (before_first is_delimiter text, drop (position_or_len is_delimiter text) text)

-- A name and its key.
pub record NameAndKey : Type 0 where
  pub name : List ℕ
  pub key : Key

-- A name with its key.
unfoldable pub named_at : List ℕ → Option (NameAndKey × List ℕ)
named_at text = name_at text >>= λ name. key_at name.1 >>= λ key. Some (record { name = name.0; key = key.0 }, key.1)

-- ---- addresses

-- The last part of an address: a type, and a name with its key.
pub record Last : Type 0 where
  pub kind_name : List ℕ
  pub named : NameAndKey

-- A type, a dot, and a name with its key, as the whole text.
unfoldable pub typed_in : List ℕ → Option Last
typed_in text = name_at text >>= λ kind. after_prefix (codes ".") kind.1 >>= named_at >>= λ named.
    if length named.1 == 0 then Some (record { kind_name = kind.0; named = named.0 }) else None

-- The last part of an address, as the whole text.
unfoldable pub last_in : List ℕ → Option Last
last_in text = option_or (typed_in text) (after_prefix (codes "data.") text >>= typed_in)

-- The text after a module and its dot.
unfoldable pub after_module : List ℕ → Option (List ℕ)
after_module text = after_prefix (codes "module.") text >>= named_at >>= λ named. after_prefix (codes ".") named.1

-- The last part after at most `most` modules, and the text of that part.
unfoldable pub last_after_modules : (most : ℕ) → List ℕ → Option (Last × List ℕ)
last_after_modules zero text = None
last_after_modules (suc most) text = option_map_or (λ last. Some (last, text)) (last_in text) (after_module text >>= last_after_modules most)

-- The parts of a text that is an address.
unfoldable pub parts_in : List ℕ → Option Parts
parts_in text = option_map (λ answer. record {
  module_address = take (length text - length answer.1 - 1) text;
  resource = answer.1;
  kind_name = answer.0.kind_name;
  name = answer.0.named.name;
  key = answer.0.named.key;
}) (last_after_modules (length text) text)
