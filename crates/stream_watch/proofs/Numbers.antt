-- Lines with their numbers, one more at the end.
use Rattle.std.proofs.Common.{◌≡◌, ℕ, List, [], ◌∷◌, ◌++◌, ap, refl}
use Rattle.stream_watch.specs.Counts.{plus}
use Rattle.stream_watch.specs.SnippetRow.{code_words, numbered}

-- the number of the line behind these lines
abbrev pub number_behind : (number : ℕ) → (lines : List (List ℕ)) → ℕ
number_behind number [] = number
number_behind number (line ∷ lines) = number_behind (plus number 1) lines

pub numbered-more : (number : ℕ) (lines : List (List ℕ)) (line : List ℕ)
    → numbered number (lines ++ line ∷ []) ≡ numbered number lines ++ code_words (number_behind number lines) line ∷ []
numbered-more number [] line = refl
numbered-more number (first ∷ lines) line = ap (λ (texts : List (List ℕ)). code_words number first ∷ texts) (numbered-more (plus number 1) lines line)

pub number-more : (number : ℕ) (lines : List (List ℕ)) (line : List ℕ)
    → number_behind number (lines ++ line ∷ []) ≡ plus (number_behind number lines) 1
number-more number [] line = refl
number-more number (first ∷ lines) line = number-more (plus number 1) lines line
