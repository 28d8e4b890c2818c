-- Texts that were appended, one after another.
use Rattle.std.proofs.Common.{◌≡◌, ◌∙◌, ℕ, [], ◌∷◌, ◌++◌, List, Option, ap, sym, append_assoc}
use Rattle.std.specs.Io.KnownBytes.{Appends}
use Rattle.std.specs.Prelude.{string_bytes}
use Rattle.stream_check.specs.MessageTexts.{HasText, AppendsText}
use Rattle.stream_check.specs.declared.command.message_text.MessageText.{MessageText}

pub text_then : (a b c : MessageText) (v w : List ℕ) → AppendsText a b v → AppendsText b c w → AppendsText a c (v ++ w)
text_then a b c v w first second whole =
    let later = second whole in
    let sooner = first later.0 in
    (sooner.0, later.1 ∙ ap (λ (bytes : List ℕ). bytes ++ w) sooner.1 ∙ append_assoc (string_bytes a.text) v w)

-- after an empty text
pub text_all : (a b : MessageText) (w : List ℕ) → HasText a [] → AppendsText a b w → HasText b w
text_all a b w none more whole = let all = more whole in all.1 ∙ ap (λ (bytes : List ℕ). bytes ++ w) (none all.0)

-- words that are written, and a line feed
pub written : (before after : Option (List ℕ)) (text said : List ℕ) → text ≡ said → Appends before after (text ++ 10 ∷ []) → Appends before after (said ++ 10 ∷ [])
written before after text said is done = rw (sym is) done
