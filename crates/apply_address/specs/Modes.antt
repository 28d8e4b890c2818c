-- Modes of resources, by their addresses.
use Rattle.std.specs.Prelude.{ℕ, List, is_some, if◌then◌else◌}
use Rattle.apply_model.specs.declared.plan.mode.Mode.{Mode}
use Rattle.apply_model.specs.declared.plan.mode.Mode.TheVariants.{DataSource, Managed}
use Rattle.apply_address.specs.Reading.{typed_in}

-- The mode of a resource, by the last part of its address: a data source where `data.` stands
-- before the type.
abbrev pub mode_of : List ℕ → Mode
mode_of resource = if is_some (typed_in resource) then Managed else DataSource
