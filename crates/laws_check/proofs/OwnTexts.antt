-- The text of tokens is UTF-8 if the strings, the keys and the numbers among them are.
use Rattle.std.proofs.Common.{List, [], ◌∷◌, ◌++◌, IsUtf8, Bool, false, refl}
use Rattle.std.proofs.lemmas.Str.{IsUtf8-append, IsUtf8-nil}
use Rattle.json.specs.Token.{Token, begin_object, end_object, begin_array, end_array, key, string, number, boolean, null, bad}
use Rattle.json.specs.Print.{ends, print, print_from, separator, token_text}
use Rattle.json.proofs.Printed.Utf8.{IsUtf8-are_ascii, IsUtf8-boolean, IsUtf8-key, IsUtf8-quoted, IsUtf8-separator}
use Rattle.laws_check.proofs.Tokens.{AreSpelt, IsSpelt}

token_utf8 : (t : Token) → IsSpelt t → IsUtf8 (token_text t)
token_utf8 begin_object h = IsUtf8-are_ascii (123 ∷ []) refl
token_utf8 end_object h = IsUtf8-are_ascii (125 ∷ []) refl
token_utf8 begin_array h = IsUtf8-are_ascii (91 ∷ []) refl
token_utf8 end_array h = IsUtf8-are_ascii (93 ∷ []) refl
token_utf8 (key s) h = IsUtf8-key s h
token_utf8 (string s) h = IsUtf8-quoted s h
token_utf8 (number s) h = h
token_utf8 (boolean b) h = IsUtf8-boolean b
token_utf8 null h = IsUtf8-are_ascii (110 ∷ 117 ∷ 108 ∷ 108 ∷ []) refl
token_utf8 bad h = IsUtf8-nil

printed_from : (after_value : Bool) (ts : List Token) → AreSpelt ts → IsUtf8 (print_from after_value ts)
unfolding print_from
printed_from after_value [] h = IsUtf8-nil
printed_from after_value (t ∷ ts) h =
    IsUtf8-append (separator after_value t) (token_text t ++ print_from (ends t) ts) (IsUtf8-separator after_value t)
    (IsUtf8-append (token_text t) (print_from (ends t) ts) (token_utf8 t h.0) (printed_from (ends t) ts h.1))

pub printed_utf8 : (ts : List Token) → AreSpelt ts → IsUtf8 (print ts)
printed_utf8 ts h = printed_from false ts h
