-- Texts that are joined, one more at the end.
use Rattle.std.proofs.Common.{◌≡◌, ◌∙◌, ℕ, List, [], ◌∷◌, ◌++◌, Option, Some, None, ap, append-nil, append_assoc, refl, sym}
use Rattle.std.specs.Prelude.{option_to_list}
use Rattle.std.specs.List.{flat_map, join_by}
use Rattle.std.proofs.lemmas.Grind.{flat_map-append}
use Rattle.stream_watch.specs.Joined.{before_more, before_next, joined, more_words}

pub join-more : {A : Type 0} (f : A → List ℕ) (separator : List ℕ) (xs : List A) (x : A)
    → join_by f separator (xs ++ x ∷ []) ≡ join_by f separator xs ++ (before_more separator xs ++ f x)
join-more f separator [] x = append-nil (f x)
join-more {A} f separator (first ∷ xs) x =
    ap (λ (bytes : List ℕ). f first ++ bytes)
    (flat_map-append (λ (y : A). separator ++ f y) xs (x ∷ []) ∙ ap (λ (bytes : List ℕ). flat_map (λ (y : A). separator ++ f y) xs ++ bytes) (append-nil (separator ++ f x)))
    ∙ sym (append_assoc (f first) (flat_map (λ (y : A). separator ++ f y) xs) (separator ++ f x))

-- a text that may be missing
pub joined-option : (separator : List ℕ) (texts : List (List ℕ)) (text : Option (List ℕ))
    → joined separator (texts ++ option_to_list text) ≡ joined separator texts ++ more_words (before_more separator texts) text
joined-option separator texts None = ap (joined separator) (append-nil texts) ∙ sym (append-nil (joined separator texts))
joined-option separator texts (Some text) = join-more (λ (t : List ℕ). t) separator texts text

pub before-more : {A : Type 0} (separator : List ℕ) (xs : List A) (x : A) → before_more separator (xs ++ x ∷ []) ≡ separator
before-more separator [] x = refl
before-more separator (first ∷ xs) x = refl

pub before-option : (separator : List ℕ) (texts : List (List ℕ)) (text : Option (List ℕ))
    → before_more separator (texts ++ option_to_list text) ≡ before_next separator (before_more separator texts) text
before-option separator texts None = ap (before_more separator) (append-nil texts)
before-option separator texts (Some text) = before-more separator texts text
