-- Texts with a separator between them.
use Rattle.std.specs.Prelude.{ℕ, List, [], ◌∷◌, ◌++◌, Option, Some, None}
use Rattle.std.specs.List.{join_by}

abbrev pub joined : (separator : List ℕ) → (texts : List (List ℕ)) → List ℕ
joined separator texts = join_by (λ text. text) separator texts

-- ---- one more text, for private clauses

-- what stands before one more text
abbrev pub before_more : {A : Type 0} → (separator : List ℕ) → (texts : List A) → List ℕ
before_more separator [] = []
before_more separator (text ∷ texts) = separator

-- a text that may be missing, with what stands before it
abbrev pub more_words : (before : List ℕ) → (text : Option (List ℕ)) → List ℕ
more_words before None = []
more_words before (Some text) = before ++ text

-- what stands before the text after that one
abbrev pub before_next : (separator before : List ℕ) → (text : Option (List ℕ)) → List ℕ
before_next separator before None = before
before_next separator before (Some text) = separator
