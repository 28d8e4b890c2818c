use Rattle.std.proofs.Common.{drop, ◌+◌, arith}
use Rattle.apply_model.specs.Script.Outcome.{ran, seconds_before, took}
use Rattle.apply_events.proofs.MidSteps.{before_whole, due_in_time, run_ends_now, run_in_time, run_none, run_emits_now, run_times}
use Rattle.apply_events.proofs.mid_step.MidStep.run.Goals as goal

pub returns-in_default-clause-next : goal.returns-in_default-clause-next
returns-in_default-clause-next c =
    let o = c.args.outcome.now in
    let none = run_none (took c.args.kind o) (seconds_before c.args.kind o) (ran o.provisioners) c.args.self.now.emitted c.args.self.now.provisioner c.args.line c.args.self.now.outputs c.requires.outputs c.in_default.ensures.answer in
    (none, none)

pub due_of-due-requires : goal.due_of-due-requires
due_of-due-requires c =
    let o = c.args.outcome.now in
    let ends = run_in_time (took c.args.kind o) (seconds_before c.args.kind o) (ran o.provisioners) c.args.self.now.provisioner c.provisioner_start-begin.result c.in-Some.provisioner.now c.in-Some.ensures.answer (before_whole c.args.kind o) c.provisioner_start-begin.ensures in
    let short = c.requires.short in
    (omega arith)

pub returns-in-Some-emit_until-clause-next : goal.returns-in-Some-emit_until-clause-next
returns-in-Some-emit_until-clause-next c =
    let o = c.args.outcome.now in
    rw (← c.took.ensures)
    (run_times c.took.result (seconds_before c.args.kind o) (ran o.provisioners) c.args.self.now c.emit_until.new.self c.args.line c.provisioner_start-begin.result c.due_of-due.result c.in-Some-emit_until.emitted c.in-Some.provisioner.now
    c.requires.outputs c.in-Some-emit_until.ensures.same.0 c.in-Some-emit_until.ensures.same.1 c.in-Some.ensures.answer c.provisioner_start-begin.ensures c.due_of-due.ensures
    c.in-Some-emit_until.ensures.on_time.0 c.in-Some-emit_until.ensures.on_time.1 c.in-Some-emit_until.ensures.some)

pub returns-in-Some-emit_until-clause-in_time : goal.returns-in-Some-emit_until-clause-in_time
returns-in-Some-emit_until-clause-in_time c =
    let o = c.args.outcome.now in
    let p = c.in-Some.provisioner.now in
    let ends = run_in_time (took c.args.kind o) (seconds_before c.args.kind o) (ran o.provisioners) c.args.self.now.provisioner c.provisioner_start-begin.result p c.in-Some.ensures.answer (before_whole c.args.kind o) c.provisioner_start-begin.ensures in
    let last = due_in_time c.args.self.now.emitted c.provisioner_start-begin.result (c.provisioner_start-begin.result + p.seconds) (drop c.args.line p.output) in
    let at = c.due_of-due.ensures in
    let early = c.in-Some-emit_until.ensures.in_time in
    (omega arith)

pub returns-then-line-len-clause-next : goal.returns-then-line-len-clause-next
returns-then-line-len-clause-next c =
    let o = c.args.outcome.now in
    rw (← c.took.ensures)
    (run_emits_now c.took.result (seconds_before c.args.kind o) (ran o.provisioners) c.args.self.now c.emit_until.new.self c.args.line c.provisioner_start-begin.result c.due_of-due.result c.in-Some.provisioner.now
    c.in_default-emit_until.ensures.none.1 c.requires.outputs c.in-Some.ensures.answer c.provisioner_start-begin.ensures c.due_of-due.ensures c.in_default-emit_until.ensures.none.0 (let count = c.len.ensures.len in let less = c.if-line-len.true in omega arith))

pub returns-then-line-len-clause-in_time : goal.returns-then-line-len-clause-in_time
returns-then-line-len-clause-in_time c =
    let o = c.args.outcome.now in
    let p = c.in-Some.provisioner.now in
    let ends = run_in_time (took c.args.kind o) (seconds_before c.args.kind o) (ran o.provisioners) c.args.self.now.provisioner c.provisioner_start-begin.result p c.in-Some.ensures.answer (before_whole c.args.kind o) c.provisioner_start-begin.ensures in
    let last = due_in_time c.args.self.now.emitted c.provisioner_start-begin.result (c.provisioner_start-begin.result + p.seconds) (drop c.args.line p.output) in
    let at = c.due_of-due.ensures in
    (omega arith)

pub returns-clause-next : goal.returns-clause-next
returns-clause-next c =
    let o = c.args.outcome.now in
    rw (c.end_of.ensures, ← c.took.ensures)
    (run_ends_now c.took.result (seconds_before c.args.kind o) (ran o.provisioners) c.args.self.now c.emit_until.new.self c.args.line c.provisioner_start-begin.result c.due_of-due.result c.in-Some.provisioner.now
    c.in_default-emit_until.ensures.none.1 c.requires.outputs c.in-Some.ensures.answer c.provisioner_start-begin.ensures c.due_of-due.ensures c.in_default-emit_until.ensures.none.0 (let count = c.len.ensures.len in let all = c.if-line-len.false in omega arith))

pub returns-clause-in_time : goal.returns-clause-in_time
returns-clause-in_time c =
    let o = c.args.outcome.now in
    let p = c.in-Some.provisioner.now in
    let ends = run_in_time (took c.args.kind o) (seconds_before c.args.kind o) (ran o.provisioners) c.args.self.now.provisioner c.provisioner_start-begin.result p c.in-Some.ensures.answer (before_whole c.args.kind o) c.provisioner_start-begin.ensures in
    let last = due_in_time c.args.self.now.emitted c.provisioner_start-begin.result (c.provisioner_start-begin.result + p.seconds) (drop c.args.line p.output) in
    let at = c.due_of-due.ensures in
    (omega arith)
