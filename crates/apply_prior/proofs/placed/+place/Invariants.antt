use Rattle.std.proofs.Common.{◌≡◌, ◌+◌, ◌*◌, ◌++◌, flat_map, map, take}
use Rattle.serde_json.specs.View.{view}
use Rattle.apply_prior.specs.Objects.{placed_child}
use Rattle.apply_prior.specs.Views.{placed_view}
use Rattle.apply_prior.proofs.placed.+place.Given as goal

abbrev pub decreases-place_module : goal.decreases-place_module
decreases-place_module l = 2 * l.levels

abbrev pub decreases-place_modules : goal.decreases-place_modules
decreases-place_modules l = 2 * l.levels + 1

abbrev pub invariant-place_module-loop-element : goal.invariant-place_module-loop-element
invariant-place_module-loop-element l =
    map placed_view l.placed.items ≡ map placed_view l.fn.placed.items ++ map (λ v. (l.module_address, view v)) (take l.element-index l.elements)

abbrev pub invariant-place_modules-loop-module : goal.invariant-place_modules-loop-module
invariant-place_modules-loop-module l =
    map placed_view l.placed.items ≡ map placed_view l.fn.placed.items ++ flat_map (λ v. placed_child l.levels (view v)) (take l.module-index l.modules)
