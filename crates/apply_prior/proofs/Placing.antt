-- The elements of modules, one level after the other.
use Rattle.std.proofs.Common.{◌≡◌, ℕ, zero, suc, ◌-◌, ◌<◌, ◌≤◌, List, [], ◌∷◌, ◌++◌, codes, length, map, take, flat_map, refl, sym, ap, ◌∙◌, append_assoc, append-nil, arith}
use Rattle.std.proofs.lemmas.List.{take_all}
use Rattle.serde_json.specs.Data.{Data}
use Rattle.serde_json.specs.View.{view}
use Rattle.serde_json.specs.declared.value.Value.{Value}
use Rattle.apply_prior.specs.Elements.{items_at}
use Rattle.apply_prior.specs.Objects.{placed_child, placed_in}

pub no_levels : (levels : ℕ) (address : List ℕ) (d : Data) (old : List (List ℕ × Data)) → levels ≡ 0 → old ≡ old ++ placed_in levels address d
unfolding placed_in
no_levels levels address d old none = rw none (sym (append-nil old))

abbrev paired : List ℕ → Data → List ℕ × Data
paired address d = (address, d)

pairs : (address : List ℕ) (values : List Value) → map (λ v. paired address (view v)) values ≡ map (λ e. paired address e) (map view values)
pairs address [] = refl
pairs address (v ∷ vs) = ap (λ (ps : List (List ℕ × Data)). paired address (view v) ∷ ps) (pairs address vs)

children : (levels : ℕ) (values : List Value) → flat_map (λ v. placed_child levels (view v)) values ≡ flat_map (placed_child levels) (map view values)
children levels [] = refl
children levels (v ∷ vs) = ap (λ ps. placed_child levels (view v) ++ ps) (children levels vs)

-- a level with the elements of its module and with its modules
pub one_level : (levels : ℕ) (address : List ℕ) (d : Data) (old so_far new : List (List ℕ × Data)) (es cs : List Value) (n : ℕ) → 0 < levels → map view es ≡ items_at (codes "resources") d
    → map view cs ≡ items_at (codes "child_modules") d → length es ≤ n → so_far ≡ old ++ map (λ v. paired address (view v)) (take n es) → new ≡ so_far ++ flat_map (placed_child (levels - 1)) (map view cs)
    → new ≡ old ++ placed_in levels address d
unfolding placed_in
one_level zero address d old so_far new es cs n some elements modules past before after = absurd (omega (arith, some))
one_level (suc levels) address d old so_far new es cs n some elements modules past before after =
    let less : suc levels - 1 ≡ levels = omega arith in
    after
    ∙ ap (λ (k : ℕ). so_far ++ flat_map (placed_child k) (map view cs)) less
    ∙ ap (λ ds. so_far ++ flat_map (placed_child levels) ds) modules
    ∙ ap (λ ps. ps ++ flat_map (placed_child levels) (items_at (codes "child_modules") d)) (before ∙ ap (λ vs. old ++ map (λ v. paired address (view v)) vs) (take_all n es past) ∙ ap (λ ps. old ++ ps) (pairs address es ∙ ap (map (λ e. paired address e)) elements))
    ∙ append_assoc old (map (λ e. paired address e) (items_at (codes "resources") d)) (flat_map (placed_child levels) (items_at (codes "child_modules") d))

-- none is left
pub all_modules : (levels : ℕ) (cs : List Value) (n : ℕ) (old new : List (List ℕ × Data)) → length cs ≤ n → new ≡ old ++ flat_map (λ v. placed_child levels (view v)) (take n cs) → new ≡ old ++ flat_map (placed_child levels) (map view cs)
all_modules levels cs n old new past is = is ∙ ap (λ vs. old ++ flat_map (λ v. placed_child levels (view v)) vs) (take_all n cs past) ∙ ap (λ ps. old ++ ps) (children levels cs)
