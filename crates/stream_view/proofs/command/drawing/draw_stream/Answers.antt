use Rattle.std.proofs.Common.{◌≡◌, ℕ, subst, sym}
use Rattle.std.specs.Prelude.{IfSome}
use Rattle.stream_lines.specs.Cut.{cut_lines}
use Rattle.stream_runs.specs.Counted.{runs_in}
use Rattle.stream_view.proofs.CountedRuns.{runs_counted}
use Rattle.stream_view.proofs.command.drawing.draw_stream.Goals as goal

pub returns-in-Ok-draw-clause-runs : goal.returns-in-Ok-draw-clause-runs
returns-in-Ok-draw-clause-runs g c =
    let given = g.R.Read.remaining c.args.reader.now in
    subst (λ (n : ℕ). IfSome given (λ bytes. n ≡ runs_in c.args.find (cut_lines bytes))) (sym c.runs.ensures)
    (runs_counted c.args.find given c.in-Ok.timeline c.in-Ok.ensures)
