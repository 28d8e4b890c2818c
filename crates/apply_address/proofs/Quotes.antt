-- Texts between quotes, one piece after the other.
use Rattle.std.proofs.Common.{◌≡◌, ℕ, zero, suc, ◌<◌, ◌≤◌, List, [], ◌++◌, length, Some, None, refl, ap, sym, ◌∙◌, arith, append_assoc, append-nil, cond}
use Rattle.std.specs.Char.{encode_utf8}
use Rattle.std.specs.Option.{option_map_or}
use Rattle.apply_address.specs.Pieces.{is_doubled}
use Rattle.apply_address.specs.Reading.{after_pieces, piece_at, unescaped_pieces}

-- What is left of a text, with room for its pieces, stands in front of the same as the whole.
pub record IsLeft (rest whole : List ℕ) : Type 0 where
  pub most : ℕ
  pub room : length rest ≤ most
  pub same : after_pieces most rest ≡ after_pieces (length whole) whole

pub left-all : (whole : List ℕ) → IsLeft whole whole
left-all whole = record { most = length whole; room = omega arith; same = refl }

pub after_pieces-step : (most : ℕ) (rest remainder : List ℕ) (character : ℕ) → piece_at rest ≡ Some (character, remainder) → after_pieces (suc most) rest ≡ after_pieces most remainder
unfolding after_pieces
after_pieces-step most rest remainder character piece = ap (λ p. option_map_or (λ (answer : ℕ × List ℕ). after_pieces most answer.1) p rest) piece

pub after_pieces-end : (most : ℕ) (rest : List ℕ) → piece_at rest ≡ None → after_pieces most rest ≡ rest
unfolding after_pieces
after_pieces-end zero rest none = refl
after_pieces-end (suc most) rest none = ap (λ p. option_map_or (λ (answer : ℕ × List ℕ). after_pieces most answer.1) p rest) none

one_more : (most : ℕ) (rest remainder whole : List ℕ) (character : ℕ) → piece_at rest ≡ Some (character, remainder) → length remainder < length rest
    → length rest ≤ most → after_pieces most rest ≡ after_pieces (length whole) whole → IsLeft remainder whole
one_more zero rest remainder whole character piece shorter room same = absurd (omega arith)
one_more (suc most) rest remainder whole character piece shorter room same = record {
  most = most;
  room = omega arith;
  same = sym (after_pieces-step most rest remainder character piece) ∙ same;
}

pub left-more : (rest remainder whole : List ℕ) (character : ℕ) → piece_at rest ≡ Some (character, remainder) → length remainder < length rest → IsLeft rest whole → IsLeft remainder whole
left-more rest remainder whole character piece shorter left = one_more left.most rest remainder whole character piece shorter left.room left.same

pub left-end : (rest whole : List ℕ) → piece_at rest ≡ None → IsLeft rest whole → rest ≡ after_pieces (length whole) whole
left-end rest whole none left = sym (after_pieces-end left.most rest none) ∙ left.same

-- The content so far and the content of the rest are the content of the whole.
pub record IsUnescaped (content rest whole : List ℕ) : Type 0 where
  pub most : ℕ
  pub room : length rest ≤ most
  pub same : content ++ unescaped_pieces most rest ≡ unescaped_pieces (length whole) whole

pub content-none : (whole content : List ℕ) → content ≡ [] → IsUnescaped content whole whole
content-none whole content none = record { most = length whole; room = omega arith; same = ap (λ s. s ++ unescaped_pieces (length whole) whole) none }

pub unescaped_pieces-step : (most : ℕ) (rest remainder : List ℕ) (character : ℕ) → piece_at rest ≡ Some (character, remainder)
    → unescaped_pieces (suc most) rest ≡ cond (is_doubled rest) [] (encode_utf8 character) ++ unescaped_pieces most remainder
unfolding unescaped_pieces
unescaped_pieces-step most rest remainder character piece =
    ap (λ p. option_map_or (λ (answer : ℕ × List ℕ). cond (is_doubled rest) [] (encode_utf8 answer.0) ++ unescaped_pieces most answer.1) p []) piece

pub unescaped_pieces-end : (most : ℕ) (rest : List ℕ) → piece_at rest ≡ None → unescaped_pieces most rest ≡ []
unfolding unescaped_pieces
unescaped_pieces-end zero rest none = refl
unescaped_pieces-end (suc most) rest none =
    ap (λ p. option_map_or (λ (answer : ℕ × List ℕ). cond (is_doubled rest) [] (encode_utf8 answer.0) ++ unescaped_pieces most answer.1) p []) none

one_unescaped : (most : ℕ) (content grown rest remainder whole : List ℕ) (character : ℕ) → piece_at rest ≡ Some (character, remainder) → length remainder < length rest
    → grown ≡ content ++ cond (is_doubled rest) [] (encode_utf8 character) → length rest ≤ most
    → content ++ unescaped_pieces most rest ≡ unescaped_pieces (length whole) whole → IsUnescaped grown remainder whole
one_unescaped zero content grown rest remainder whole character piece shorter more room same = absurd (omega arith)
one_unescaped (suc most) content grown rest remainder whole character piece shorter more room same = record {
  most = most;
  room = omega arith;
  same = ap (λ s. s ++ unescaped_pieces most remainder) more ∙ append_assoc content _ _ ∙ ap (λ s. content ++ s) (sym (unescaped_pieces-step most rest remainder character piece)) ∙ same;
}

pub content-more : (content grown rest remainder whole : List ℕ) (character : ℕ) → piece_at rest ≡ Some (character, remainder) → length remainder < length rest
    → grown ≡ content ++ cond (is_doubled rest) [] (encode_utf8 character) → IsUnescaped content rest whole → IsUnescaped grown remainder whole
content-more content grown rest remainder whole character piece shorter more so_far =
    one_unescaped so_far.most content grown rest remainder whole character piece shorter more so_far.room so_far.same

pub content-end : (content rest whole : List ℕ) → piece_at rest ≡ None → IsUnescaped content rest whole → content ≡ unescaped_pieces (length whole) whole
content-end content rest whole none so_far =
    sym (append-nil content) ∙ ap (λ s. content ++ s) (sym (unescaped_pieces-end so_far.most rest none)) ∙ so_far.same
