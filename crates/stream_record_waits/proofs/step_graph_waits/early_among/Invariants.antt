use Rattle.std.proofs.Common.{◌≡◌, take}
use Rattle.std.specs.Prelude.{filter}
use Rattle.stream_record_waits.specs.Reached.{is_early}
use Rattle.stream_record_waits.proofs.step_graph_waits.early_among.Given as goal

abbrev pub invariant-loop-other : goal.invariant-loop-other
invariant-loop-other l = l.early.items ≡ filter (is_early l.steps l.line) (take l.other-index l.found)
