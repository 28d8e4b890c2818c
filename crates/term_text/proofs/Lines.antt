-- Texts that have room on one line.
use Rattle.std.proofs.Common.{◌≡◌, ◌∙◌, ℕ, ◌≤◌, ◌∷◌, [], ◌++◌, List, ap, subst}
use Rattle.term_text.specs.Columns.{columns_of}
use Rattle.term_text.specs.Fitting.{without_blanks}

-- where all stands on one line, that line is all
pub wrapped_one : (text given line shown : List ℕ) (limit : ℕ) (before first after : List (List ℕ)) → given ≡ text
    → (columns_of given ≤ limit → line ≡ without_blanks given) → shown ≡ line → before ≡ [] → first ≡ before ++ shown ∷ []
    → (columns_of text ≤ limit → after ≡ first) → columns_of text ≤ limit → after ≡ without_blanks text ∷ []
wrapped_one text given line shown limit before first after is trims copied none pushed stays fits =
    stays fits ∙ pushed ∙ ap (λ xs. xs ++ shown ∷ []) none
    ∙ ap (λ x. x ∷ []) (copied ∙ subst (λ t. columns_of t ≤ limit → line ≡ without_blanks t) is trims fits)
