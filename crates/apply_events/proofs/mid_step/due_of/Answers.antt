use Rattle.std.proofs.Common.{◌+◌, sym, arith}
use Rattle.apply_events.proofs.MidSteps.{due_located, due_past}
use Rattle.apply_events.proofs.mid_step.due_of.Goals as goal

pub returns-then-line-len : goal.returns-then-line-len
returns-then-line-len c =
    let p = c.args.provisioner.now in
    let answer = due_located c.args.emitted c.args.begin (c.args.begin + p.seconds) p.output c.args.line c.get.result.now c.get.ensures in
    let at = c.saturating_add-at.ensures in
    let later = c.max.ensures in
    let first = c.min.ensures in
    let short = c.requires in
    omega arith

pub returns-else-line-len : goal.returns-else-line-len
returns-else-line-len c =
    let p = c.args.provisioner.now in
    sym (due_past c.args.emitted c.args.begin (c.args.begin + p.seconds) p.output c.args.line (let count = c.len.ensures.len in let all = c.if-line-len.false in omega arith))
