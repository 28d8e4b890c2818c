use Rattle.std.proofs.Common.{◌≡◌, ◌≤◌}
use Rattle.stream_runs.proofs.Leading.{Leads}
use Rattle.stream_runs.proofs.selecting.select_run.Given as goal

abbrev pub invariant-lines : goal.invariant-lines
invariant-lines g l =
    Leads l.find l.choice (g.R.Read.remaining l.initial.reader) (g.R.Read.remaining l.reader) l.collected
    × (l.collected.lines ≡ l.before) × (l.collected.begun ≤ l.collected.lines)
