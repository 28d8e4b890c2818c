use Rattle.std.proofs.Common.{refl}
use Rattle.stream_check.proofs.command.reading_on.runs_there.Goals as goal

pub returns-in-VersionAgain : goal.returns-in-VersionAgain
returns-in-VersionAgain g c = λ bytes left. c.counted_runs.ensures bytes (left (rw c.in-VersionAgain.is refl))
