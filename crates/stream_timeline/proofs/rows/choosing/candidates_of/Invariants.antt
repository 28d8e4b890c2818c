use Rattle.std.proofs.Common.{◌≡◌, ◌++◌, drop}
use Rattle.stream_timeline.specs.Rows.{candidates_from, candidates_of}
use Rattle.stream_timeline.proofs.rows.choosing.candidates_of.Given as goal

-- with those to come, all
abbrev pub invariant-loop-place : goal.invariant-loop-place
invariant-loop-place l = l.candidates.items ++ candidates_from l.time_range l.place (drop l.place l.steps) ≡ candidates_of l.time_range l.steps
