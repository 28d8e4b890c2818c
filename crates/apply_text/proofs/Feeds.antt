-- No JSON text without spaces has a line feed.
use Rattle.std.proofs.Common.{◌≡◌, ℕ, zero, suc, ◌+◌, ◌==◌, List, [], ◌∷◌, ◌++◌, Bool, true, false, cond, decimal, pos, negsuc, refl, arith}
use Rattle.std.specs.Fmt.{digits, digits_onto}
use Rattle.std.proofs.lemmas.Grind.{common_steps}
use Rattle.std.proofs.lemmas.List.Sums.{sum_by-append}
use Rattle.json.specs.Print.{escape, escape_byte, quoted}
use Rattle.serde_json.specs.Data.{Num, unsigned, negative, float, Data, null, boolean, number, string, array, object, Items, no_items, item, Members, no_members, member}
use Rattle.serde_json.specs.Written.{comma_if, compact_text, items_text, members_text, number_text}
use Rattle.apply_text.specs.Laws.{line_feeds}
use Rattle.apply_text.specs.Lines.{line_of}

joined : (xs ys : List ℕ) → line_feeds (xs ++ ys) ≡ line_feeds xs + line_feeds ys
joined xs ys = sum_by-append (λ byte. cond (byte == 10) 1 0) xs ys

in_escape : (byte : ℕ) → line_feeds (escape_byte byte) ≡ 0
unfolding escape_byte
in_escape byte = grind (arith, common_steps)

in_escaped : (text : List ℕ) → line_feeds (escape text) ≡ 0
in_escaped [] = refl
in_escaped (byte ∷ text) = omega (arith, joined (escape_byte byte) (escape text), in_escape byte, in_escaped text)

in_quoted : (text : List ℕ) → line_feeds (quoted text) ≡ 0
in_quoted text = omega (arith, joined (escape text) (34 ∷ []), in_escaped text)

in_digits : (k n : ℕ) (digits : List ℕ) → line_feeds digits ≡ 0 → line_feeds (digits_onto k 10 false n digits) ≡ 0
in_digits zero n digits none = none
in_digits (suc k) n digits none = grind (arith, common_steps, in_digits k)

in_decimal : (n : ℕ) → line_feeds (decimal n) ≡ 0
unfolding digits
in_decimal n = in_digits 64 n [] refl

in_number : (n : Num) → line_feeds (number_text n) ≡ 0
in_number (unsigned n) = in_decimal n
in_number (negative (pos n)) = in_decimal n
in_number (negative (negsuc n)) = in_decimal (suc n)
in_number (float x) = refl

in_comma : (later : Bool) → line_feeds (comma_if later) ≡ 0
in_comma true = refl
in_comma false = refl

mutual
  in_text : (d : Data) → line_feeds (compact_text d) ≡ 0
  in_text null = refl
  in_text (boolean true) = refl
  in_text (boolean false) = refl
  in_text (number n) = in_number n
  in_text (string s) = in_quoted s
  in_text (array ds) = in_items false ds
  in_text (object ms) = in_members false ms

  in_items : (later : Bool) (ds : Items) → line_feeds (items_text later ds) ≡ 0
  in_items later no_items = refl
  in_items later (item d ds) = omega (arith, joined (comma_if later) (compact_text d ++ items_text true ds), joined (compact_text d) (items_text true ds), in_comma later, in_text d, in_items true ds)

  in_members : (later : Bool) (ms : Members) → line_feeds (members_text later ms) ≡ 0
  in_members later no_members = refl
  in_members later (member k d ms) =
      omega (arith, joined (comma_if later) (quoted k ++ 58 ∷ (compact_text d ++ members_text true ms)), joined (quoted k) (58 ∷ (compact_text d ++ members_text true ms)), joined (compact_text d) (members_text true ms), in_comma later, in_quoted k, in_text d, in_members true ms)

pub in_line : (d : Data) → line_feeds (line_of d) ≡ 1
in_line d = omega (arith, joined (compact_text d) (10 ∷ []), in_text d)
