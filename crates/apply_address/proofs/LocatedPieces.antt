-- The pieces that are read stand in the text as they are written.
use Rattle.std.proofs.Common.{◌≡◌, ℕ, zero, suc, ◌<◌, ◌≤◌, ◌==◌, nat_lt, Bool, true, false, cond, List, [], ◌∷◌, ◌++◌, length, take, drop, Option, Some, None, refl, sym, ap, subst, ◌∙◌, arith, ⊎_elim, append_assoc, append-nil, drop_at}
use Rattle.std.specs.Prelude.{slice_get, IsSome, option_map}
use Rattle.std.specs.Char.{IsScalar, encode_utf8}
use Rattle.std.specs.List.{AllByRecursion}
use Rattle.std.specs.Str.{IsUtf8, chars}
use Rattle.std.specs.Str.Parse.{digits_value}
use lib.Utf8.{scalar, scalars, encodes}
use Rattle.std.proofs.lemmas.Bool.{and_parts}
use Rattle.std.proofs.lemmas.Bool.Decides.{nat_tests}
use Rattle.std.proofs.lemmas.List.{length-take-le, take-append-drop}
use Rattle.std.proofs.lemmas.Option.{cond_some}
use Rattle.std.proofs.lemmas.Str.{IsUtf8-drop, IsUtf8-encode, chars-append, chars-encodes, chars-nil, encode_ascii}
use Rattle.apply_address.specs.Pieces.{AreDigits, IsPiece, Piece, character_of, escape, escaped_character, is_doubled, long, plain, unescaped_text, short, written_piece, written_text}
use Rattle.apply_address.specs.Reading.{after_pieces, character_at, code_at, escape_at, hexadecimal, piece_at, unescaped_pieces}
use Rattle.apply_address.proofs.Digits.{digits_boundary, hexadecimal-all}
use Rattle.apply_address.proofs.Quotes.{after_pieces-end, after_pieces-step, unescaped_pieces-end, unescaped_pieces-step}
use Rattle.apply_address.proofs.Steps.{bind_some, chosen, map_some, not_none, same_Some}

chars-one : (character : ℕ) → IsScalar character → chars (encode_utf8 character) ≡ character ∷ []
chars-one character is =
    let all : scalars (character ∷ []) ≡ true = rw is refl in
    ap chars (sym (append-nil (encode_utf8 character))) ∙ chars-encodes (character ∷ []) all

pub character_at-encode : (character : ℕ) (rest : List ℕ) → IsScalar character → character_at (encode_utf8 character ++ rest) ≡ Some (character, rest)
unfolding character_at
character_at-encode character rest is =
    let cut : drop (length (encode_utf8 character)) (encode_utf8 character ++ rest) ≡ rest = drop_at (encode_utf8 character) rest (length (encode_utf8 character)) refl in
    let first : chars (encode_utf8 character ++ rest) ≡ character ∷ chars rest =
    chars-append (encode_utf8 character) rest (IsUtf8-encode character is) ∙ ap (λ cs. cs ++ chars rest) (chars-one character is) in
    ap (λ cs. option_map (λ c. (c, drop (length (encode_utf8 c)) (encode_utf8 character ++ rest))) (slice_get cs 0)) first ∙ ap (λ (t : List ℕ). Some (character, t)) cut

character_at-nil : character_at [] ≡ None
unfolding character_at
character_at-nil = rw chars-nil refl

-- a character stands in front of a text
pub record IsFirst (text : List ℕ) (character : ℕ) (remainder : List ℕ) : Type 0 where
  pub scalar : IsScalar character
  pub stands : text ≡ encode_utf8 character ++ remainder
  pub utf8 : IsUtf8 remainder

first_of : (cs text : List ℕ) → scalars cs ≡ true → encodes cs ≡ text → (character : ℕ) (remainder : List ℕ) → character_at text ≡ Some (character, remainder) → IsFirst text character remainder
first_of [] text all same character remainder is = absurd (let none : character_at text ≡ None = ap character_at (sym same) ∙ character_at-nil in cc)
first_of (c ∷ cs) text all same character remainder is =
    let both = and_parts _ _ all in
    let pair : (c, encodes cs) ≡ (character, remainder) = same_Some _ _ (sym (character_at-encode c (encodes cs) both.0) ∙ ap character_at same ∙ is) in
    let one : c ≡ character = ap (λ (p : ℕ × List ℕ). p.0) pair in
    let rest : encodes cs ≡ remainder = ap (λ (p : ℕ × List ℕ). p.1) pair in
    record {
      scalar = subst IsScalar one both.0;
      stands = sym same ∙ ap (λ k. encode_utf8 k ++ encodes cs) one ∙ ap (λ t. encode_utf8 character ++ t) rest;
      utf8 = (cs, (both.1, rest));
    }

pub character_located : (text : List ℕ) (character : ℕ) (remainder : List ℕ) → IsUtf8 text → character_at text ≡ Some (character, remainder) → IsFirst text character remainder
character_located text character remainder utf8 is = first_of utf8.0 text utf8.1.0 utf8.1.1 character remainder is

-- hexadecimal digits stand in front of a text
record AreFirst (count : ℕ) (text : List ℕ) (character : ℕ) (remainder : List ℕ) : Type 0 where
  digits : List ℕ
  are : AreDigits count digits
  denotes : digits_value 16 digits ≡ character
  stands : text ≡ digits ++ remainder
  utf8 : IsUtf8 remainder

code_located : (count : ℕ) (text : List ℕ) (character : ℕ) (remainder : List ℕ) → 0 < count → IsUtf8 text → code_at count text ≡ Some (character, remainder) → AreFirst count text character remainder
unfolding code_at
code_located count text character remainder some utf8 is =
    let long_enough = not_none (nat_lt (length text) count) _ _ is in
    let within : count ≤ length text = let test = long_enough.0 in grind (arith, nat_tests) in
    let step = bind_some (hexadecimal (take count text)) _ _ long_enough.1 in
    let code = step.0 in
    let both = cond_some (scalar code) (code, drop count text) (character, remainder) step.2 in
    let all = hexadecimal-all (take count text) code step.1 in
    let rest : drop count text ≡ remainder = ap (λ (p : ℕ × List ℕ). p.1) both.1 in
    record {
      digits = take count text;
      are = (length-take-le count text within, all.0, subst IsScalar (sym all.1) both.0);
      denotes = all.1 ∙ ap (λ (p : ℕ × List ℕ). p.0) both.1;
      stands = sym (take-append-drop count text) ∙ ap (λ t. take count text ++ t) rest;
      utf8 = subst IsUtf8 rest (IsUtf8-drop text count utf8 (digits_boundary text count code utf8 within step.1 some));
    }

-- a piece stands in front of a text
pub record PieceStands (text : List ℕ) (character : ℕ) (remainder : List ℕ) : Type 0 where
  pub piece : Piece
  pub is : IsPiece piece
  pub denotes : character_of piece ≡ character
  pub stands : text ≡ written_piece piece ++ remainder
  pub utf8 : IsUtf8 remainder

escaped_ascii : (letter character : ℕ) → escaped_character letter ≡ Some character → letter < 128
escaped_ascii letter character is = grind (arith, nat_tests)

-- a letter of ASCII in front of a text
letter_stands : (letter : ℕ) (text remainder : List ℕ) → letter < 128 → text ≡ encode_utf8 letter ++ remainder → text ≡ letter ∷ remainder
letter_stands letter text remainder low stands = stands ∙ ap (λ bytes. bytes ++ remainder) (encode_ascii letter low)

short_located : (letter : ℕ) (text rest : List ℕ) (character : ℕ) (remainder : List ℕ) → (letter == 117) ≡ true → IsFirst text letter rest → code_at 4 rest ≡ Some (character, remainder) → PieceStands (92 ∷ text) character remainder
short_located letter text rest character remainder test first is =
    let digits = code_located 4 rest character remainder (omega arith) first.utf8 is in
    let same : letter ≡ 117 = grind (arith, nat_tests) in
    record {
      piece = short digits.digits;
      is = digits.are;
      denotes = digits.denotes;
      stands = ap (λ t. 92 ∷ t) (letter_stands letter text rest (omega arith) first.stands ∙ ap (λ k. k ∷ rest) same ∙ ap (λ t. 117 ∷ t) digits.stands);
      utf8 = digits.utf8;
    }

long_located : (letter : ℕ) (text rest : List ℕ) (character : ℕ) (remainder : List ℕ) → (letter == 85) ≡ true → IsFirst text letter rest → code_at 8 rest ≡ Some (character, remainder) → PieceStands (92 ∷ text) character remainder
long_located letter text rest character remainder test first is =
    let digits = code_located 8 rest character remainder (omega arith) first.utf8 is in
    let same : letter ≡ 85 = grind (arith, nat_tests) in
    record {
      piece = long digits.digits;
      is = digits.are;
      denotes = digits.denotes;
      stands = ap (λ t. 92 ∷ t) (letter_stands letter text rest (omega arith) first.stands ∙ ap (λ k. k ∷ rest) same ∙ ap (λ t. 85 ∷ t) digits.stands);
      utf8 = digits.utf8;
    }

some_escape : (letter x : ℕ) → escaped_character letter ≡ Some x → IsSome (escaped_character letter) × (character_of (escape letter) ≡ x)
some_escape letter x is = rw is (refl, refl)

letter_located : (letter : ℕ) (text rest : List ℕ) (character : ℕ) (remainder : List ℕ) → IsFirst text letter rest
    → option_map {U = ℕ × List ℕ} (λ (c : ℕ). (c, rest)) (escaped_character letter) ≡ Some (character, remainder) → PieceStands (92 ∷ text) character remainder
letter_located letter text rest character remainder first is =
    let answer = map_some _ (escaped_character letter) _ is in
    let one = some_escape letter answer.0 answer.1 in
    let same : rest ≡ remainder = ap (λ (p : ℕ × List ℕ). p.1) answer.2 in
    record {
      piece = escape letter;
      is = one.0;
      denotes = one.1 ∙ ap (λ (p : ℕ × List ℕ). p.0) answer.2;
      stands = ap (λ t. 92 ∷ t) (letter_stands letter text rest (escaped_ascii letter answer.0 answer.1) first.stands) ∙ ap (λ t. 92 ∷ letter ∷ t) same;
      utf8 = subst IsUtf8 same first.utf8;
    }

escape_located : (text : List ℕ) (character : ℕ) (remainder : List ℕ) → IsUtf8 text → escape_at text ≡ Some (character, remainder) → PieceStands (92 ∷ text) character remainder
unfolding escape_at
escape_located text character remainder utf8 is =
    let step = bind_some (character_at text) _ _ is in
    let letter = step.0.0 in
    let rest = step.0.1 in
    let first : IsFirst text letter rest = character_located text letter rest utf8 step.1 in
    ⊎_elim
    (λ four. short_located letter text rest character remainder four.0 first four.1)
    (λ other. ⊎_elim
    (λ eight. long_located letter text rest character remainder eight.0 first eight.1)
    (λ others. letter_located letter text rest character remainder first others.1)
    (chosen (letter == 85) _ _ _ other.1))
    (chosen (letter == 117) _ _ _ step.2)

pub piece_located : (text : List ℕ) (character : ℕ) (remainder : List ℕ) → IsUtf8 text → piece_at text ≡ Some (character, remainder) → PieceStands text character remainder
unfolding piece_at
piece_located text character remainder utf8 is =
    let step = bind_some (character_at text) _ _ is in
    let c = step.0.0 in
    let rest = step.0.1 in
    let first : IsFirst text c rest = character_located text c rest utf8 step.1 in
    let no_quote = not_none (c == 34) _ _ step.2 in
    ⊎_elim
    (λ backslash.
    let same : c ≡ 92 = let test = backslash.0 in grind (arith, nat_tests) in
    let here : text ≡ 92 ∷ rest = letter_stands c text rest (omega arith) first.stands ∙ ap (λ k. k ∷ rest) same in
    let answer = escape_located rest character remainder first.utf8 backslash.1 in
    record { piece = answer.piece; is = answer.is; denotes = answer.denotes; stands = here ∙ answer.stands; utf8 = answer.utf8 })
    (λ other.
    let pair : (c, rest) ≡ (character, remainder) = same_Some _ _ other.1 in
    let same : rest ≡ remainder = ap (λ (p : ℕ × List ℕ). p.1) pair in
    record {
      piece = plain c;
      is = (first.scalar, (let test = no_quote.0 in λ e. grind (arith, nat_tests)), (let test = other.0 in λ e. grind (arith, nat_tests)));
      denotes = ap (λ (p : ℕ × List ℕ). p.0) pair;
      stands = first.stands ∙ ap (λ t. encode_utf8 c ++ t) same;
      utf8 = subst IsUtf8 same first.utf8;
    })
    (chosen (c == 92) _ _ _ no_quote.1)

-- a quote after a text does not double a sign
pub doubled-quote : (text tail : List ℕ) → is_doubled (text ++ 34 ∷ tail) ≡ is_doubled text
doubled-quote [] tail = refl
doubled-quote (a ∷ []) tail = refl
doubled-quote (a ∷ b ∷ []) tail = refl
doubled-quote (a ∷ b ∷ c ∷ text) tail = refl

-- pieces stand in front of a text, and what they say
pub record PiecesStand (most : ℕ) (text : List ℕ) : Type 0 where
  pub pieces : List Piece
  pub are : AllByRecursion IsPiece pieces
  pub stand : text ≡ written_text pieces ++ after_pieces most text
  pub utf8 : IsUtf8 (after_pieces most text)
  pub unescape : (tail : List ℕ) → after_pieces most text ≡ 34 ∷ tail → unescaped_pieces most text ≡ unescaped_text pieces

pub joined : (b : Bool) (one rest : List ℕ) → cond b [] one ++ rest ≡ cond b rest (one ++ rest)
joined true one rest = refl
joined false one rest = refl

none_stands : (most : ℕ) (text : List ℕ) → after_pieces most text ≡ text → unescaped_pieces most text ≡ [] → IsUtf8 text → PiecesStand most text
none_stands most text same nothing utf8 = record {
  pieces = [];
  are = tt;
  stand = sym same;
  utf8 = subst IsUtf8 (sym same) utf8;
  unescape = λ tail ends. nothing;
}

one_stands : (most : ℕ) (text : List ℕ) (character : ℕ) (remainder : List ℕ) → PieceStands text character remainder → PiecesStand most remainder
    → after_pieces (suc most) text ≡ after_pieces most remainder
    → unescaped_pieces (suc most) text ≡ cond (is_doubled text) [] (encode_utf8 character) ++ unescaped_pieces most remainder → PiecesStand (suc most) text
one_stands most text character remainder first others same content =
    let whole : text ≡ written_text (first.piece ∷ others.pieces) ++ after_pieces most remainder =
    first.stands ∙ ap (λ t. written_piece first.piece ++ t) others.stand ∙ sym (append_assoc (written_piece first.piece) (written_text others.pieces) (after_pieces most remainder)) in
    record {
      pieces = first.piece ∷ others.pieces;
      are = (first.is, others.are);
      stand = whole ∙ ap (λ t. written_text (first.piece ∷ others.pieces) ++ t) (sym same);
      utf8 = subst IsUtf8 (sym same) others.utf8;
      unescape = λ tail ends.
          let ends_here : after_pieces most remainder ≡ 34 ∷ tail = sym same ∙ ends in
          let test : is_doubled text ≡ is_doubled (written_text (first.piece ∷ others.pieces)) =
          ap is_doubled (whole ∙ ap (λ t. written_text (first.piece ∷ others.pieces) ++ t) ends_here) ∙ doubled-quote (written_text (first.piece ∷ others.pieces)) tail in
          content ∙ ap (λ t. cond (is_doubled text) [] (encode_utf8 character) ++ t) (others.unescape tail ends_here)
          ∙ ap (λ k. cond (is_doubled text) [] (encode_utf8 k) ++ unescaped_text others.pieces) (sym first.denotes)
          ∙ ap (λ b. cond b [] (encode_utf8 (character_of first.piece)) ++ unescaped_text others.pieces) test
          ∙ joined (is_doubled (written_text (first.piece ∷ others.pieces))) (encode_utf8 (character_of first.piece)) (unescaped_text others.pieces);
    }

by_piece : (most : ℕ) (text : List ℕ) (o : Option (ℕ × List ℕ)) → piece_at text ≡ o → IsUtf8 text → ((remainder : List ℕ) → IsUtf8 remainder → PiecesStand most remainder) → PiecesStand (suc most) text
by_piece most text None is utf8 others = none_stands (suc most) text (after_pieces-end (suc most) text is) (unescaped_pieces-end (suc most) text is) utf8
by_piece most text (Some piece) is utf8 others =
    let first : PieceStands text piece.0 piece.1 = piece_located text piece.0 piece.1 utf8 is in
    one_stands most text piece.0 piece.1 first (others piece.1 first.utf8)
    (after_pieces-step most text piece.1 piece.0 is) (unescaped_pieces-step most text piece.1 piece.0 is)

pub pieces_stand : (most : ℕ) (text : List ℕ) → IsUtf8 text → PiecesStand most text
unfolding after_pieces unescaped_pieces
pieces_stand zero text utf8 = none_stands zero text refl refl utf8
pieces_stand (suc most) text utf8 = by_piece most text (piece_at text) refl utf8 (λ remainder rest. pieces_stand most remainder rest)
