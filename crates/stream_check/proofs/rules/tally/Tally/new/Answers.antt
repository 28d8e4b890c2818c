use Rattle.std.proofs.Common.{refl}
use Rattle.stream_check.specs.Tally.{failures_left}
use Rattle.stream_check.proofs.rules.tally.Tally.new.Goals as goal

pub returns-clause-value : goal.returns-clause-value
unfolding failures_left
returns-clause-value c = refl
