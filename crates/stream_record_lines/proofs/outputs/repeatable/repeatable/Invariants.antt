use Rattle.std.proofs.Common.{◌≡◌, ◌++◌}
use Rattle.std.specs.List.{filter_map}
use Rattle.stream_record_lines.specs.Outputs.{output_of}
use Rattle.stream_record_lines.specs.OutputSlots.{entries_view}
use Rattle.stream_record_lines.proofs.outputs.repeatable.repeatable.Given as goal

abbrev pub invariant-loop-name : goal.invariant-loop-name
invariant-loop-name l =
    filter_map output_of (entries_view l.fn.found.entries)
    ≡ l.outputs.items ++ filter_map output_of (entries_view l.name-iterator)
