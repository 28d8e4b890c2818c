-- The names and keys that are read stand in the text as they are written.
use Rattle.std.proofs.Common.{◌≡◌, ℕ, suc, ◌+◌, ◌<◌, ◌≤◌, ◌==◌, nat_lt, Bool, true, false, not, cond, codes, List, [], ◌∷◌, ◌++◌, length, take, drop, get_or, Some, refl, sym, ap, subst, ◌∙◌, arith, ⊎_elim, append_assoc, add-one, drop-cons, lit<}
use Rattle.std.specs.Fmt.{signed_decimal}
use Rattle.std.specs.List.{AllByRecursion, before_first, after_first, position_or_len, prefix_len}
use Rattle.std.specs.Str.{IsUtf8}
use Rattle.std.proofs.lemmas.Bool.Decides.{nat_tests}
use Rattle.std.proofs.lemmas.List.{length-take-le, take-append-drop}
use Rattle.std.proofs.lemmas.List.Sums.{prefix_len-le-length, prefix_len_stops}
use Rattle.std.proofs.lemmas.Option.{cond_some}
use Rattle.std.proofs.lemmas.Str.{IsCharBoundary-after_ascii, IsUtf8-drop}
use Rattle.apply_model.specs.declared.plan.key.Key.{Key}
use Rattle.apply_model.specs.declared.plan.key.Key.TheVariants as key
use Rattle.apply_model.specs.Plan.Address.{after_prefix}
use Rattle.apply_address.specs.Address.{IsNamed, Named, written_named}
use Rattle.apply_address.specs.Keys.{IsKey, WrittenKey, no_key, number_key, meant_key, text_key, written_key}
use Rattle.apply_address.specs.Names.{IsName, is_delimiter}
use Rattle.apply_address.specs.Pieces.{written_text}
use Rattle.apply_address.specs.Reading.{NameAndKey, after_pieces, cut_at_bracket, key_at, name_at, named_at, number_key_at, unescaped_in, text_key_at, whole_number}
use Rattle.apply_address.proofs.LocatedPieces.{pieces_stand}
use Rattle.apply_address.proofs.Delimiters.{delimiter_boundary}
use Rattle.apply_address.proofs.Numbers.{whole_number-answer}
use Rattle.apply_address.proofs.Steps.{after_prefix-answer, bind_some, map_or_some, map_some, not_none, same_Some, utf8_after}

-- ---- names

abbrev IsPlain : List ℕ → Type 0
IsPlain bytes = AllByRecursion (λ byte. is_delimiter byte ≡ false) bytes

not_true : (b : Bool) → not b ≡ true → b ≡ false
not_true true e = absurd cc
not_true false e = refl

plain_more : (byte : ℕ) (bytes : List ℕ) (size : ℕ) (b : Bool) → not (is_delimiter byte) ≡ b → IsPlain (take size bytes) → IsPlain (take (cond b (1 + size) 0) (byte ∷ bytes))
plain_more byte bytes size true test others =
    let next : 1 + size ≡ suc size = omega arith in
    subst (λ (k : ℕ). IsPlain (take k (byte ∷ bytes))) (sym next) (not_true (is_delimiter byte) test, others)
plain_more byte bytes size false test others = tt

before_plain : (bytes : List ℕ) → IsPlain (before_first is_delimiter bytes)
before_plain [] = tt
before_plain (byte ∷ bytes) = plain_more byte bytes (position_or_len is_delimiter bytes) (not (is_delimiter byte)) refl (before_plain bytes)

-- a name stands in front of a text
pub record NameStands (text name remainder : List ℕ) : Type 0 where
  pub is : IsName name
  pub stands : text ≡ name ++ remainder
  pub utf8 : IsUtf8 text → IsUtf8 remainder

name_stands : (text : List ℕ) (size : ℕ) → size ≡ position_or_len is_delimiter text → (size == 0) ≡ false → NameStands text (take size text) (drop size text)
name_stands text size is some =
    let within : size ≤ length text = omega (arith, prefix_len-le-length (λ byte. not (is_delimiter byte)) text) in
    let first : 0 < size = grind (arith, nat_tests) in
    record {
      is = record { some = omega (arith, length-take-le size text within); plain = subst (λ (k : ℕ). IsPlain (take k text)) (sym is) (before_plain text) };
      stands = sym (take-append-drop size text);
      utf8 = λ utf8. IsUtf8-drop text size utf8 (delimiter_boundary text size is);
    }

pub name_located : (text name remainder : List ℕ) → name_at text ≡ Some (name, remainder) → NameStands text name remainder
unfolding name_at
name_located text name remainder is =
    let answer = not_none (position_or_len is_delimiter text == 0) _ _ is in
    let pair : (before_first is_delimiter text, drop (position_or_len is_delimiter text) text) ≡ (name, remainder) = same_Some _ _ answer.1 in
    let P : List ℕ × List ℕ → Type 0 = λ p. NameStands text p.0 p.1 in
    subst P pair (name_stands text (position_or_len is_delimiter text) refl answer.0)

-- ---- keys

pub record KeyStands (text : List ℕ) (means : Key) (remainder : List ℕ) : Type 0 where
  pub key : WrittenKey
  pub is : IsKey key
  pub denotes : meant_key key ≡ means
  pub stands : text ≡ written_key key ++ remainder
  pub utf8 : IsUtf8 remainder

text_key_located : (text : List ℕ) (means : Key) (remainder : List ℕ) → IsUtf8 text → text_key_at text ≡ Some (means, remainder) → KeyStands (codes "[\"" ++ text) means remainder
unfolding text_key_at
text_key_located text means remainder utf8 is =
    let answer = map_some _ (after_prefix (codes "\"]") (after_pieces (length text) text)) _ is in
    let rest : List ℕ = answer.0 in
    let pieces = pieces_stand (length text) text utf8 in
    let ends : after_pieces (length text) text ≡ codes "\"]" ++ rest = after_prefix-answer (codes "\"]") (after_pieces (length text) text) rest answer.1 in
    let written = written_text pieces.pieces in
    let stands : codes "[\"" ++ text ≡ written_key (text_key pieces.pieces) ++ rest =
    ap (λ t. 91 ∷ 34 ∷ t) (pieces.stand ∙ ap (λ t. written ++ t) ends ∙ sym (append_assoc written (codes "\"]") rest)) in
    let here : KeyStands (codes "[\"" ++ text) (key.Name (unescaped_in text)) rest = record {
      key = text_key pieces.pieces;
      is = pieces.are;
      denotes = ap (λ t. key.Name t) (sym (pieces.unescape (93 ∷ rest) ends));
      stands = stands;
      utf8 = utf8_after (codes "\"]") rest (lit< tt, (lit< tt, tt)) (subst IsUtf8 ends pieces.utf8);
    } in
    let P : Key × List ℕ → Type 0 = λ p. KeyStands (codes "[\"" ++ text) p.0 p.1 in
    subst P answer.2 here

-- what stands around a bracket
record BracketStands (text before remainder : List ℕ) : Type 0 where
  stands : text ≡ before ++ 93 ∷ remainder
  utf8 : IsUtf8 text → IsUtf8 remainder

bracket_stands : (text : List ℕ) (size : ℕ) → size ≡ position_or_len (λ byte. byte == 93) text → size < length text → BracketStands text (take size text) (drop (size + 1) text)
bracket_stands text size is within =
    let place : prefix_len (λ byte. not (byte == 93)) text < length text = rw (← is) within in
    let stop : not (get_or text (prefix_len (λ byte. not (byte == 93)) text) 0 == 93) ≡ false = prefix_len_stops (λ byte. not (byte == 93)) text 0 place in
    let same : get_or text size 0 ≡ get_or text (prefix_len (λ byte. not (byte == 93)) text) 0 = ap (λ k. get_or text k 0) is in
    let bracket : get_or text size 0 ≡ 93 = grind (arith, nat_tests) in
    record {
      stands = sym (take-append-drop size text) ∙ ap (λ t. take size text ++ t) (drop-cons text size 0 within ∙ ap (λ k. k ∷ drop (suc size) text) bracket ∙ ap (λ k. 93 ∷ drop k text) (sym (add-one size)));
      utf8 = λ utf8. IsUtf8-drop text (size + 1) utf8 (IsCharBoundary-after_ascii text size utf8 within (omega arith));
    }

bracket_located : (text before remainder : List ℕ) → cut_at_bracket text ≡ Some (before, remainder) → BracketStands text before remainder
unfolding cut_at_bracket
bracket_located text before remainder is =
    let answer = cond_some (nat_lt (position_or_len (λ byte. byte == 93) text) (length text)) (before_first (λ byte. byte == 93) text, after_first (λ byte. byte == 93) text) (before, remainder) is in
    let within : position_or_len (λ byte. byte == 93) text < length text = let test = answer.0 in grind (arith, nat_tests) in
    let P : List ℕ × List ℕ → Type 0 = λ p. BracketStands text p.0 p.1 in
    subst P answer.1 (bracket_stands text (position_or_len (λ byte. byte == 93) text) refl within)

number_key_located : (text : List ℕ) (means : Key) (remainder : List ℕ) → IsUtf8 text → number_key_at text ≡ Some (means, remainder) → KeyStands (codes "[" ++ text) means remainder
unfolding number_key_at
number_key_located text means remainder utf8 is =
    let step = bind_some (cut_at_bracket text) _ _ is in
    let around : BracketStands text step.0.0 step.0.1 = bracket_located text step.0.0 step.0.1 step.1 in
    let answer = map_some _ (whole_number step.0.0) _ step.2 in
    let whole = whole_number-answer step.0.0 answer.0 answer.1 in
    let digits = signed_decimal answer.0 in
    let stands : codes "[" ++ text ≡ written_key (number_key answer.0) ++ step.0.1 =
    ap (λ t. 91 ∷ t) (around.stands ∙ ap (λ t. t ++ 93 ∷ step.0.1) whole.written ∙ sym (append_assoc digits (codes "]") step.0.1)) in
    let here : KeyStands (codes "[" ++ text) (key.Number answer.0) step.0.1 = record {
      key = number_key answer.0;
      is = whole.fits;
      denotes = refl;
      stands = stands;
      utf8 = around.utf8 utf8;
    } in
    let P : Key × List ℕ → Type 0 = λ p. KeyStands (codes "[" ++ text) p.0 p.1 in
    subst P answer.2 here

pub key_located : (text : List ℕ) (means : Key) (remainder : List ℕ) → IsUtf8 text → key_at text ≡ Some (means, remainder) → KeyStands text means remainder
unfolding key_at
key_located text means remainder utf8 is =
    ⊎_elim
    (λ quoted.
    let here : text ≡ codes "[\"" ++ quoted.0 = after_prefix-answer (codes "[\"") text quoted.0 quoted.1 in
    let P : List ℕ → Type 0 = λ t. KeyStands t means remainder in
    subst P (sym here) (text_key_located quoted.0 means remainder (utf8_after (codes "[\"") quoted.0 (lit< tt, (lit< tt, tt)) (subst IsUtf8 here utf8)) quoted.2))
    (λ other. ⊎_elim
    (λ number.
    let here : text ≡ codes "[" ++ number.0 = after_prefix-answer (codes "[") text number.0 number.1 in
    let P : List ℕ → Type 0 = λ t. KeyStands t means remainder in
    subst P (sym here) (number_key_located number.0 means remainder (utf8_after (codes "[") number.0 (lit< tt, tt) (subst IsUtf8 here utf8)) number.2))
    (λ none.
    let pair : (key.None, text) ≡ (means, remainder) = same_Some _ _ none.1 in
    let P : Key × List ℕ → Type 0 = λ p. KeyStands text p.0 p.1 in
    subst P pair (record { key = no_key; is = tt; denotes = refl; stands = refl; utf8 = utf8 }))
    (map_or_some number_key_at (after_prefix (codes "[") text) (Some (key.None, text)) (Some (means, remainder)) other.1))
    (map_or_some text_key_at (after_prefix (codes "[\"") text) _ (Some (means, remainder)) is)

-- ---- names with keys

abbrev pub meant_named : Named → NameAndKey
meant_named named = record { name = named.name; key = meant_key named.key }

pub record NamedStands (text : List ℕ) (means : NameAndKey) (remainder : List ℕ) : Type 0 where
  pub named : Named
  pub is : IsNamed named
  pub denotes : meant_named named ≡ means
  pub stands : text ≡ written_named named ++ remainder
  pub utf8 : IsUtf8 remainder

pub named_located : (text : List ℕ) (means : NameAndKey) (remainder : List ℕ) → IsUtf8 text → named_at text ≡ Some (means, remainder) → NamedStands text means remainder
unfolding named_at
named_located text means remainder utf8 is =
    let name_step = bind_some (name_at text) _ _ is in
    let name : List ℕ = name_step.0.0 in
    let first : NameStands text name name_step.0.1 = name_located text name name_step.0.1 name_step.1 in
    let key_step = bind_some (key_at name_step.0.1) _ _ name_step.2 in
    let rest : List ℕ = key_step.0.1 in
    let second : KeyStands name_step.0.1 key_step.0.0 rest = key_located name_step.0.1 key_step.0.0 rest (first.utf8 utf8) key_step.1 in
    let named : Named = record { name = name; key = second.key } in
    let last_named : NameAndKey = record { name = name; key = key_step.0.0 } in
    let pair : (last_named, rest) ≡ (means, remainder) = same_Some _ _ key_step.2 in
    let here : NamedStands text last_named rest = record {
      named = named;
      is = record { name = first.is; key = second.is };
      denotes = ap (λ (k : Key). let both : NameAndKey = record { name = name; key = k } in both) second.denotes;
      stands = first.stands ∙ ap (λ t. name ++ t) second.stands ∙ sym (append_assoc name (written_key second.key) rest);
      utf8 = second.utf8;
    } in
    let P : NameAndKey × List ℕ → Type 0 = λ p. NamedStands text p.0 p.1 in
    subst P pair here
