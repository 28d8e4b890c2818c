-- What is escaped.
use Rattle.std.proofs.Common.{◌≡◌, ℕ, ◌∷◌, [], List, Bool, true, false, inl, inr, refl, sym, get_or, append-nil}
use Rattle.std.specs.Prelude.{◌==◌, ◌⊎◌, encode_utf8, if◌then◌else◌, map}
use Rattle.std.specs.List.{flat_map}
use Rattle.std.specs.Str.{NoCharPasses}
use Rattle.std.proofs.lemmas.List.Elements.{All-map}
use Rattle.std.proofs.lemmas.List.Folds.{flat_map-map}
use Rattle.term_text.specs.Markup.{IsEntity, IsMarkupEscaped, markup_escaped, is_markup}

if_either : {X : Type 0} (P : X → Type 0) (test : Bool) (x y : X) → (test ≡ true → P x) → (test ≡ false → P y) → P (if test then x else y)
if_either P true x y then_is else_is = then_is refl
if_either P false x y then_is else_is = else_is refl

abbrev IsFine : List ℕ → Type 0
IsFine bytes = IsEntity bytes ⊎ NoCharPasses is_markup bytes

other_is_fine : (character : ℕ) → (character == 38) ≡ false → (character == 60) ≡ false → IsFine (encode_utf8 character)
other_is_fine character no_and no_less = inr (character ∷ [], append-nil (encode_utf8 character), (rw (no_and, no_less) refl, tt))

escaped_is_fine : (character : ℕ) → IsFine (markup_escaped character)
escaped_is_fine character =
    if_either IsFine (character == 38) _ _ (λ is. inl refl)
    (λ no_and. if_either IsFine (character == 60) _ _ (λ is. inl refl)
    (λ no_less. if_either IsFine (character == 62) _ _ (λ is. inl refl)
    (λ no_greater. if_either IsFine (character == 34) _ _ (λ is. inl refl) (λ no_quote. other_is_fine character no_and no_less))))

pub are_escaped : (characters : List ℕ) → IsMarkupEscaped (flat_map markup_escaped characters)
are_escaped characters = record {
  pieces = map markup_escaped characters;
  each = All-map IsFine markup_escaped characters (λ k d below. escaped_is_fine (get_or characters k d));
  are = sym (flat_map-map (λ (piece : List ℕ). piece) markup_escaped characters);
}
