use Rattle.std.proofs.Common.{◌≡◌, take}
use Rattle.std.specs.Prelude.{filter}
use Rattle.stream_record_waits.specs.Reached.{is_wait}
use Rattle.stream_record_waits.proofs.step_graph_waits.waits_among.Given as goal

abbrev pub invariant-loop-other : goal.invariant-loop-other
invariant-loop-other l = l.waits.items ≡ filter (is_wait l.steps l.step l.line) (take l.other-index l.found)
