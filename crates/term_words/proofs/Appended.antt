-- Words that were added, one after another.
use Rattle.std.proofs.Common.{◌≡◌, ◌∙◌, ℕ, [], ◌++◌, List, ap, append-nil, append_assoc, sym}
use Rattle.term_words.specs.MessageTexts.{HasText, AppendsText}
use Rattle.term_words.specs.declared.message_text.MessageText.{MessageText}

pub text_then : (a b c : MessageText) (v w : List ℕ) → AppendsText a b v → AppendsText b c w → AppendsText a c (v ++ w)
text_then a b c v w first second whole =
    let later = second whole in
    let sooner = first later.0 in
    (sooner.0, later.1 ∙ ap (λ (bytes : List ℕ). bytes ++ w) sooner.1 ∙ append_assoc a.bytes.items v w)

pub text_as : (a b : MessageText) (v w : List ℕ) → v ≡ w → AppendsText a b v → AppendsText a b w
text_as a b v w is more whole = let all = more whole in (all.0, all.1 ∙ ap (λ (ws : List ℕ). a.bytes.items ++ ws) is)

-- after no words
pub text_all : (a b : MessageText) (w : List ℕ) → HasText a [] → AppendsText a b w → HasText b w
text_all a b w none more whole = let all = more whole in all.1 ∙ ap (λ (bytes : List ℕ). bytes ++ w) (none all.0)

-- after some words
pub text_more : (a b : MessageText) (v w : List ℕ) → HasText a v → AppendsText a b w → HasText b (v ++ w)
text_more a b v w had more whole = let all = more whole in all.1 ∙ ap (λ (bytes : List ℕ). bytes ++ w) (had all.0)

-- no words
pub text_none : (a : MessageText) → AppendsText a a []
text_none a whole = (whole, sym (append-nil a.bytes.items))
