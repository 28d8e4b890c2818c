-- The objects of the entries so far.
use Rattle.std.proofs.Common.{◌≡◌, map, take}
use Rattle.serde_json.specs.View.{view}
use Rattle.stream_check.specs.ReportObject.{entry_object}
use Rattle.stream_check.proofs.command.objects.entries_array.Given as goal

abbrev pub invariant-loop-entry : goal.invariant-loop-entry
invariant-loop-entry l = map view l.values.items ≡ map (entry_object l.lines_before) (take l.entry-index l.entries)
