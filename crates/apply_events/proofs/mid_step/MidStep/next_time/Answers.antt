use Rattle.std.proofs.Common.{inl, inr, arith}
use Rattle.apply_events.proofs.ProgressTimes.{next_time, no_time}
use Rattle.apply_events.proofs.mid_step.MidStep.next_time.Goals as goal
use Rattle.apply_events.proofs.mid_step.MidStep.next_time.Goals.{else-time-whole-via-then-time-whole+else-time-until, else-time-whole-via-else-time-whole}

pub returns-then-self-whole-clause-none : goal.returns-then-self-whole-clause-none
returns-then-self-whole-clause-none c = no_time c.args.whole c.args.self.now.emitted c.args.until (inr (omega arith))

pub returns-then-time-until-clause-some : goal.returns-then-time-until-clause-some
returns-then-time-until-clause-some c = next_time c.args.whole c.args.self.now.emitted c.args.until (omega arith) (omega arith)

pub returns-else-time-whole-clause-none : goal.returns-else-time-whole-clause-none
returns-else-time-whole-clause-none c =
    elim c.else-time-whole.branch [
      | else-time-whole-via-then-time-whole+else-time-until w ↦ no_time c.args.whole c.args.self.now.emitted c.args.until (inl (omega (arith, w.if-time-until)))
      | else-time-whole-via-else-time-whole w ↦ no_time c.args.whole c.args.self.now.emitted c.args.until (inr (omega (arith, w.if-time-whole)))
    ]
