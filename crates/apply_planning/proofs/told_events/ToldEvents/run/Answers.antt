use Rattle.std.proofs.Common.{◌+◌, ◌*◌, ◌/◌, ◌≤◌, arith}
use Rattle.apply_planning.proofs.Running.{completes_then, fails_then, goes_on, warns_then}
use Rattle.apply_planning.proofs.told_events.ToldEvents.run.Goals as goal
use Rattle.apply_planning.proofs.told_events.ToldEvents.run.Goals.{then-after-seconds+else-time-seconds, else-after-seconds}

pub returns-then-time-seconds : goal.returns-then-time-seconds
returns-then-time-seconds c = goes_on c.args.self.now c.args.after c.requires c.event.result c.if-time-seconds.true c.event.ensures

pub returns-then-self : goal.returns-then-self
returns-then-self c =
    let late : c.args.self.now.seconds ≤ (c.args.after / 10 + 1) * 10 = elim c.if-after-seconds.branch [
      | then-after-seconds+else-time-seconds w ↦ w.if-time-seconds.false
      | else-after-seconds w ↦ (let ge = w.if-after-seconds.false in omega arith)
    ] in
    fails_then c.args.self.now c.args.after c.requires late c.event-then-self.result c.if-self.true c.event-then-self.ensures

pub returns-then-self-2 : goal.returns-then-self-2
returns-then-self-2 c =
    let late : c.args.self.now.seconds ≤ (c.args.after / 10 + 1) * 10 = elim c.if-after-seconds.branch [
      | then-after-seconds+else-time-seconds w ↦ w.if-time-seconds.false
      | else-after-seconds w ↦ (let ge = w.if-after-seconds.false in omega arith)
    ] in
    warns_then c.args.self.now c.args.after c.requires late c.event-then-self-2.result c.if-self.false c.if-self-2.true c.event-then-self-2.ensures

pub returns-else-self-2 : goal.returns-else-self-2
returns-else-self-2 c =
    let late : c.args.self.now.seconds ≤ (c.args.after / 10 + 1) * 10 = elim c.if-after-seconds.branch [
      | then-after-seconds+else-time-seconds w ↦ w.if-time-seconds.false
      | else-after-seconds w ↦ (let ge = w.if-after-seconds.false in omega arith)
    ] in
    completes_then c.args.self.now c.args.after c.requires late c.event-else-self-2.result c.if-self.false c.if-self-2.false c.event-else-self-2.ensures
