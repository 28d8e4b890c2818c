use Rattle.std.proofs.Common.{◌≡◌, ◌++◌, map}
use Rattle.stream_watch.specs.Outputs.{output_view}
use Rattle.stream_watch.specs.OutputSlots.{entries_view}
use Rattle.stream_watch.proofs.message.outputs.in_order.in_order.Given as goal

abbrev pub invariant-loop-name : goal.invariant-loop-name
invariant-loop-name l = entries_view l.fn.found.entries ≡ map output_view l.outputs.items ++ entries_view l.name-iterator
