-- A text that a loop adds, piece by piece.
use Rattle.std.proofs.Common.{◌≡◌, ◌∙◌, ℕ, ◌+◌, ◌<◌, ◌≤◌, [], ◌++◌, List, ap, get_or, length, sym, take}
use Rattle.std.specs.List.{flat_map}
use Rattle.std.proofs.lemmas.List.{flat_map_more, take_all, take_more}
use Rattle.term_words.specs.MessageTexts.{AppendsText}
use Rattle.term_words.specs.declared.message_text.MessageText.{MessageText}
use Rattle.term_words.proofs.Appended.{text_as, text_then}

module _ {X : Type 0} (f : X → List ℕ) (xs : List X) (i : ℕ) (a b : MessageText) (before : AppendsText a b (flat_map f (take i xs))) where
  -- the piece of one element more
  pub piece_more : (x : X) (c : MessageText) → i < length xs → x ≡ get_or xs i x → AppendsText b c (f x) → AppendsText a c (flat_map f (take (i + 1) xs))
  piece_more x c below is more =
      text_as a c (flat_map f (take i xs) ++ f (get_or xs i x)) (flat_map f (take (i + 1) xs))
      (flat_map_more f [] (take i xs) (get_or xs i x) ∙ ap (flat_map f) (sym (take_more xs i x below)))
      (text_then a b c (flat_map f (take i xs)) (f (get_or xs i x)) before (text_as b c (f x) (f (get_or xs i x)) (ap f is) more))

  -- the pieces of all elements
  pub pieces_all : length xs ≤ i → AppendsText a b (flat_map f xs)
  pieces_all above = text_as a b (flat_map f (take i xs)) (flat_map f xs) (ap (flat_map f) (take_all i xs above)) before
