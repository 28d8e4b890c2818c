-- Whole texts that are written piece by piece.
use Rattle.std.proofs.Common.{◌≡◌, ◌∙◌, ◌≤◌, ℕ, ◌++◌, List, true, ap, append_assoc, arith, length, length-append}
use Rattle.term_words.specs.MessageTexts.{AppendsText, HasText, is_whole_text, text_bytes}
use Rattle.term_words.specs.declared.message_text.MessageText.{MessageText}
use Rattle.term_words.proofs.Appended.{text_more}

-- The text is the front of `whole`, without `rest`.
pub record Begun (rest whole : List ℕ) (text : MessageText) : Type 0 where
  pub front : List ℕ
  pub is : front ++ rest ≡ whole
  pub has : HasText text front

pub begun_as : (rest same whole : List ℕ) (a : MessageText) → same ≡ rest → Begun rest whole a → Begun same whole a
begun_as rest same whole a is before = record {
  front = before.front;
  is = ap (λ (t : List ℕ). before.front ++ t) is ∙ before.is;
  has = before.has;
}

pub begun_more : (piece rest whole : List ℕ) (a b : MessageText) → Begun (piece ++ rest) whole a → AppendsText a b piece → Begun rest whole b
begun_more piece rest whole a b before more = record {
  front = before.front ++ piece;
  is = append_assoc before.front piece rest ∙ before.is;
  has = text_more a b before.front piece before.has more;
}

-- A whole text is at least as large as its front.
pub begun_within : (rest whole : List ℕ) (a : MessageText) → Begun rest whole a → is_whole_text a ≡ true → length (text_bytes a) ≤ length whole
begun_within rest whole a before all =
    omega (arith, ap length (before.has all), ap length before.is, length-append before.front rest)
