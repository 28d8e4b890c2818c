-- The details of elements, one by one.
use Rattle.std.proofs.Common.{◌≡◌, ◌≤◌, ℕ, List, [], ◌∷◌, length, map, take, refl, ap, ◌∙◌}
use Rattle.std.proofs.lemmas.List.{take_all}
use Rattle.serde_json.specs.Data.{Data}
use Rattle.serde_json.specs.View.{view, items_view}
use Rattle.serde_json.specs.declared.value.Value.{Value}
use Rattle.apply_json.specs.Tree.{list_of}

in_tree : {A : Type 0} (see : Data → A) (values : List Value) → map (λ v. see (view v)) values ≡ map see (list_of (items_view values))
in_tree see [] = refl
in_tree see (value ∷ values) = ap (λ more. see (view value) ∷ more) (in_tree see values)

-- none is left
pub of_all : {A : Type 0} (see : Data → A) (made : List A) (values : List Value) (n : ℕ) → length values ≤ n → made ≡ map (λ v. see (view v)) (take n values) → made ≡ map see (list_of (items_view values))
of_all see made values n past so_far = so_far ∙ ap (λ vs. map (λ v. see (view v)) vs) (take_all n values past) ∙ in_tree see values
