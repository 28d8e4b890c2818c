use Rattle.std.proofs.Common.{◌≡◌, ◌++◌, drop, map, option_map}
use Rattle.std.specs.List.{flat_map}
use Rattle.serde_json.specs.View.{view}
use Rattle.input_validate.specs.Doubts.{named_in_entry}
use Rattle.input_validate.specs.ObjectNames.{name_view}
use Rattle.input_validate.proofs.doubts.waited.push_entries.Given as goal

abbrev pub invariant-loop-entry : goal.invariant-loop-entry
invariant-loop-entry l =
    map (option_map name_view) l.names.items ++ flat_map named_in_entry (map view (drop l.entry-index l.entries))
    ≡ map (option_map name_view) l.initial.names.items ++ flat_map named_in_entry (map view l.entries)
