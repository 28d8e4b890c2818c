-- Texts that are written piece by piece.
use Rattle.std.proofs.Common.{◌≡◌, ◌∙◌, ℕ, [], ◌++◌, List, ap, append_assoc, refl}
use Rattle.term_words.specs.MessageTexts.{AppendsText}
use Rattle.term_words.specs.declared.message_text.MessageText.{MessageText}
use Rattle.term_words.proofs.Appended.{text_as, text_none, text_then}

-- another text was added, which equals `piece`
pub then_as : (a b c : MessageText) (before added piece : List ℕ) → added ≡ piece → AppendsText a b before → AppendsText b c added
    → AppendsText a c (before ++ piece)
then_as a b c before added piece is first second = text_then a b c before piece first (text_as b c added piece is second)

-- A part of `whole` was added, and `rest` remains to be added.
pub record Remains (rest whole : List ℕ) (before after : MessageText) : Type 0 where
  pub text : List ℕ
  pub is : text ++ rest ≡ whole
  pub written : AppendsText before after text

pub remains_whole : (whole : List ℕ) (a : MessageText) → Remains whole whole a a
remains_whole whole a = record { text = []; is = refl; written = text_none a }

pub remains_as : (rest same whole : List ℕ) (a b : MessageText) → same ≡ rest → Remains rest whole a b → Remains same whole a b
remains_as rest same whole a b is before = record {
  text = before.text;
  is = ap (λ (t : List ℕ). before.text ++ t) is ∙ before.is;
  written = before.written;
}

pub remains_more : (piece rest whole : List ℕ) (a b c : MessageText) → Remains (piece ++ rest) whole a b → AppendsText b c piece → Remains rest whole a c
remains_more piece rest whole a b c before more = record {
  text = before.text ++ piece;
  is = append_assoc before.text piece rest ∙ before.is;
  written = text_then a b c before.text piece before.written more;
}

pub remains_none : (rest whole : List ℕ) (a b c : MessageText) → Remains rest whole a b → AppendsText b c rest → AppendsText a c whole
remains_none rest whole a b c before more =
    text_as a c (before.text ++ rest) whole before.is (text_then a b c before.text rest before.written more)
