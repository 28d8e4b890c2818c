-- The first value that names an object.
use Rattle.std.specs.Prelude.{◌≡◌, List, map, Bool, Option, Some, None}
use Rattle.std.specs.List.{position_from}
use Rattle.std.specs.Map.{lookup}
use Rattle.apply_model.specs.Plan.ResourceChange.{ResourceChange}
use Rattle.apply_resolve.specs.ObjectName.{name_one_object}
use Rattle.input_validate.specs.declared.against_plan.first_named.FirstNamed.{FirstNamed}
use Rattle.input_validate.specs.declared.plan.object_name.ObjectName.{ObjectName}
use Rattle.input_validate.specs.ObjectNames.{Named, name_view}
use Rattle.input_validate.specs.PlanFindings.{is_named}

-- both name the same object
abbrev pub is_same_name : ObjectName → ObjectName → Bool
is_same_name one other = name_one_object (name_view one).0 (name_view one).1 (name_view other).0 (name_view other).1

-- the index holds, for each object, the number of the first value that names it
abbrev pub AreFirst : FirstNamed → List (Option Named) → Type 0
AreFirst first names =
    (name : ObjectName) → lookup (is_same_name name) first.numbers.entries ≡ position_from (is_named (name_view name)) 0 names

-- the objects of changes
abbrev pub of_objects : List ResourceChange → List (Option Named)
of_objects changes = map (λ change. Some (change.address, change.deposed)) changes

-- the addresses of changes, as objects that are not deposed
abbrev pub at_addresses : List ResourceChange → List (Option Named)
at_addresses changes = map (λ change. Some (change.address, None)) changes
