use Rattle.std.proofs.Common.{map, take}
use Rattle.stream_watch.specs.OutputRows.{planned_outputs}
use Rattle.stream_watch.specs.Outputs.{output_view}
use Rattle.stream_watch.specs.State.{Tells, looks_of, state_of}
use Rattle.stream_watch.proofs.Told.{told}
use Rattle.stream_watch.proofs.watcher.Watcher.planned_outputs.Given as goal

abbrev pub invariant-loop-output : goal.invariant-loop-output
invariant-loop-output l =
    Tells l.initial.self l.self (told (planned_outputs (looks_of l.initial.self) (state_of l.initial.self) (map output_view (take l.output-index l.outputs))) (state_of l.initial.self))
