use Rattle.std.proofs.Common.{◌≡◌, drop, max}
use Rattle.stream_timeline.specs.Rows.{longest}
use Rattle.stream_timeline.proofs.rows.choosing.longest.Given as goal

-- with those to come, the greatest of all
abbrev pub invariant-loop-candidate : goal.invariant-loop-candidate
invariant-loop-candidate l = max l.longest (longest (drop l.candidate-index l.candidates)) ≡ longest l.candidates
