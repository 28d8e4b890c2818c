-- The names of told objects by number, and the names that an object waits for.
use Rattle.std.specs.Prelude.{ℕ, List, [], Option, map, option_map, option_to_list, if◌then◌else◌}
use Rattle.std.specs.List.{flat_map, position_from}
use Rattle.std.specs.Str.{bytes_eq}
use Rattle.apply_model.specs.declared.script.wait.Wait.{Wait}
use Rattle.apply_planning.specs.declared.told.Told.{Told}

-- The names of these objects.
abbrev pub names_of : List Told → List (List ℕ)
names_of told = map (λ one. one.name) told

-- The number of a name: that of the first told object that has it.
abbrev pub first_named : List Told → (name : List ℕ) → Option ℕ
first_named told name = position_from (bytes_eq name) 0 (names_of told)

-- A name of that number, as a step that others wait for.
abbrev pub name_wait : ℕ → Wait
name_wait number = record { change = number; step = 0 }

-- The names, by number, that an object waits for because of one that it depends on.
abbrev pub waits_by : (number : List ℕ → Option ℕ) → (own needed : List ℕ) → List Wait
waits_by number own needed = if bytes_eq needed own then [] else option_to_list (option_map name_wait (number needed))

-- The names that an object waits for, where `number` gives each name its number.
abbrev pub name_waits : (number : List ℕ → Option ℕ) → Told → List Wait
name_waits number one = flat_map (waits_by number one.name) one.depends_on.items
