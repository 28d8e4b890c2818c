-- What a command tells of its plan: drift, what is planned, and the sums.
use Rattle.std.specs.Prelude.{ℕ, List, [], ◌∷◌, Bool, true, false, ◌&&◌, if◌then◌else◌, Option, Some, None, option_and_then, option_map, slice_get}
use Rattle.std.specs.List.{enumerate_from, filter_map}
use Rattle.apply_model.specs.declared.details.change_details.ChangeDetails.{ChangeDetails}
use Rattle.apply_model.specs.Plan.ResourceChange.{ResourceChange}
use Rattle.apply_planning_failures.specs.Planning.{Planning, is_lost}

-- where the planning failed, the change of an object that was never done is not told
abbrev pub is_kept : (failed : Bool) → Planning → ResourceChange → Bool
is_kept failed planning change = if failed && is_lost planning change.address change.deposed then false else true

-- the numbers of the changes that are told
abbrev pub kept : (failed : Bool) → Planning → List ResourceChange → List ℕ
kept failed planning changes =
    filter_map (λ p. if is_kept failed planning p.1 then Some p.0 else None) (enumerate_from 0 changes)

-- a change with its details, by its number
abbrev pub details_at : List ResourceChange → List ChangeDetails → ℕ → Option (ResourceChange × ChangeDetails)
details_at changes details number =
    option_and_then (λ change. option_map (λ d. (change, d)) (slice_get details number)) (slice_get changes number)

-- a change with its details, if it is told and has some
abbrev pub told_with : Bool → ResourceChange → Option ChangeDetails → List (ResourceChange × ChangeDetails)
told_with is_told change None = []
told_with is_told change (Some details) = if is_told then (change, details) ∷ [] else []
