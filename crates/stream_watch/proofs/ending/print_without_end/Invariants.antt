use Rattle.std.proofs.Common.{take}
use Rattle.std.specs.List.{flat_map}
use Rattle.stream_watch.specs.Ending.{without_end_line}
use Rattle.stream_watch.specs.Printed.{Prints}
use Rattle.stream_watch.specs.Steps.{step_view}
use Rattle.stream_watch.proofs.ending.print_without_end.Given as goal

abbrev pub invariant-loop-step : goal.invariant-loop-step
invariant-loop-step l = Prints l.fn.printer l.printer
    (flat_map (λ step. without_end_line l.fn.printer.width l.fn.printer.has_colour l.elapsed l.now (step_view step)) (take l.step-index l.steps))
