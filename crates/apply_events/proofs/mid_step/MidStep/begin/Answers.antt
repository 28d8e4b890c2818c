use Rattle.std.proofs.Common.{arith}
use Rattle.apply_model.specs.Script.Outcome.{ran, seconds_before}
use Rattle.apply_events.proofs.MidSteps.{before_whole, begin_last, begin_now, begin_emitted, gives, since_in_time}
use Rattle.apply_events.proofs.mid_step.MidStep.begin.Goals as goal

pub returns-then-is_none-clause-next : goal.returns-then-is_none-clause-next
returns-then-is_none-clause-next c =
    let o = c.args.outcome.now in
    rw (← c.took-whole.ensures)
    (begin_last c.took-whole.result (seconds_before c.args.kind o) (ran o.provisioners) c.args.self.now c.emit_until.new.self c.emit_until.result c.running_provisioner.result c.is_none.result
    c.requires.outputs c.emit_until.ensures.same.0 c.emit_until.ensures.same.1 c.running_provisioner.ensures.answer c.is_none.ensures c.if-is_none.true
    (gives c.took-whole.result c.took-whole.result c.args.self.now c.emit_until.new.self c.emit_until.result c.emit_until.ensures.none c.emit_until.ensures.some))

pub returns-in-Some-clause-next : goal.returns-in-Some-clause-next
returns-in-Some-clause-next c =
    let o = c.args.outcome.now in
    rw (← c.took-whole.ensures)
    (begin_emitted c.took-whole.result (seconds_before c.args.kind o) (ran o.provisioners) c.args.self.now c.emit_until-2.new.self c.provisioner_start-begin.result c.in-Some.emitted c.running_provisioner.result c.is_none.result
    c.requires.outputs c.in-Some.ensures.same.0 c.in-Some.ensures.same.1 c.provisioner_start-begin.ensures c.running_provisioner.ensures.answer c.is_none.ensures c.if-is_none.false c.in-Some.ensures.some)

pub returns-clause-next : goal.returns-clause-next
returns-clause-next c =
    let o = c.args.outcome.now in
    rw (← c.took-whole.ensures)
    (begin_now c.took-whole.result (seconds_before c.args.kind o) (ran o.provisioners) c.args.self.now c.emit_until-2.new.self c.provisioner_start-begin.result c.running_provisioner.result c.is_none.result
    c.in_default.ensures.none.1 c.requires.outputs c.provisioner_start-begin.ensures c.in_default.ensures.none.0 c.running_provisioner.ensures.answer c.is_none.ensures c.if-is_none.false)

pub returns-clause-in_time : goal.returns-clause-in_time
returns-clause-in_time c =
    let o = c.args.outcome.now in
    let early = since_in_time (seconds_before c.args.kind o) (ran o.provisioners) c.args.self.now.provisioner in
    let whole = before_whole c.args.kind o in
    let begin = c.provisioner_start-begin.ensures in
    omega arith
