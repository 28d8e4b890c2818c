-- Texts that a loop adds, piece by piece.
use Rattle.std.proofs.Common.{◌≡◌, ◌∙◌, ℕ, ◌+◌, ◌<◌, ◌≤◌, [], ◌∷◌, ◌++◌, List, ap, get_or, length, sym, take}
use Rattle.std.specs.List.{flat_map}
use Rattle.std.proofs.lemmas.List.{flat_map_more, take_all, take_more}
use Rattle.term_words.specs.MessageTexts.{AppendsText}
use Rattle.term_words.specs.declared.message_text.MessageText.{MessageText}
use Rattle.term_words.proofs.Appended.{text_as, text_none, text_then}

-- other words were added after these, which equal `piece`
pub then_as : (a b c : MessageText) (first added piece : List ℕ) → added ≡ piece → AppendsText a b first → AppendsText b c added → AppendsText a c (first ++ piece)
then_as a b c first added piece is before after = text_then a b c first piece before (text_as b c added piece is after)

-- the piece of one element more
pub pieces_more : {X : Type 0} (f : X → List ℕ) (xs : List X) (i : ℕ) (d : X) (a b c : MessageText) → i < length xs
    → AppendsText a b (flat_map f (take i xs)) → AppendsText b c (f (get_or xs i d)) → AppendsText a c (flat_map f (take (i + 1) xs))
pieces_more {X} f xs i d a b c below before more =
    text_as a c (flat_map f (take i xs) ++ f (get_or xs i d)) (flat_map f (take (i + 1) xs))
    (flat_map_more f [] (take i xs) (get_or xs i d) ∙ ap (λ (ys : List X). flat_map f ys) (sym (take_more xs i d below)))
    (text_then a b c (flat_map f (take i xs)) (f (get_or xs i d)) before more)

pub piece_more : {X : Type 0} (f : X → List ℕ) (xs : List X) (i : ℕ) (x : X) (a b c : MessageText) → i < length xs → x ≡ get_or xs i x
    → AppendsText a b (flat_map f (take i xs)) → AppendsText b c (f x) → AppendsText a c (flat_map f (take (i + 1) xs))
piece_more {X} f xs i x a b c below item before more =
    pieces_more f xs i x a b c below before (text_as b c (f x) (f (get_or xs i x)) (ap f item) more)

-- the pieces of all elements
pub pieces_all : {X : Type 0} (f : X → List ℕ) (xs : List X) (i : ℕ) (a b : MessageText) → length xs ≤ i
    → AppendsText a b (flat_map f (take i xs)) → AppendsText a b (flat_map f xs)
pieces_all {X} f xs i a b above before =
    text_as a b (flat_map f (take i xs)) (flat_map f xs) (ap (λ (ys : List X). flat_map f ys) (take_all i xs above)) before

-- an element adds nothing
pub pieces_same : {X : Type 0} (f : X → List ℕ) (xs : List X) (i : ℕ) (d : X) (a b : MessageText) → i < length xs → f (get_or xs i d) ≡ []
    → AppendsText a b (flat_map f (take i xs)) → AppendsText a b (flat_map f (take (i + 1) xs))
pieces_same f xs i d a b below none before =
    pieces_more f xs i d a b b below before (text_as b b [] (f (get_or xs i d)) (sym none) (text_none b))
