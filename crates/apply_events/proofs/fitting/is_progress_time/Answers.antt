use Rattle.std.proofs.Common.{inl, inr, arith}
use Rattle.apply_events.proofs.ProgressTimes.{outside, within}
use Rattle.apply_events.proofs.fitting.is_progress_time.Goals as goal

pub returns-then-after-seconds : goal.returns-then-after-seconds
returns-then-after-seconds c = within c.args.after c.args.seconds (omega arith) (omega arith)

pub returns-else-after-seconds : goal.returns-else-after-seconds
returns-else-after-seconds c = outside c.args.after c.args.seconds (inr (omega arith))

pub returns-then-after-eq0 : goal.returns-then-after-eq0
returns-then-after-eq0 c = outside c.args.after c.args.seconds (inl (omega arith))
