use Rattle.std.proofs.Common.{◌≤◌}
use Rattle.stream_runs.proofs.Runs.{Counts}
use Rattle.stream_runs.proofs.counting.count_runs.Given as goal

abbrev pub invariant-lines : goal.invariant-lines
invariant-lines g l =
    Counts l.find (g.R.Read.remaining l.initial.reader) (g.R.Read.remaining l.reader) l.runs × (l.runs ≤ l.counter)
