use Rattle.std.proofs.Common.{map, take}
use Rattle.stream_watch.specs.State.{state_of}
use Rattle.stream_watch.specs.Steps.{step_view}
use Rattle.stream_panel.specs.Canvases.{DrawsLines}
use Rattle.stream_panel.specs.Rows.{row_line}
use Rattle.stream_panel.proofs.row.push_rows.Given as goal

abbrev pub invariant-loop-step : goal.invariant-loop-step
invariant-loop-step l = DrawsLines l.fn.out l.out l.view.has_colour
    (map (λ step. row_line l.view (state_of l.watcher) (step_view step)) (take l.step-index l.steps))
