use Rattle.std.proofs.Common.{◌<◌, ◌∙◌, ◌-◌, arith, length}
use Rattle.apply_events.specs.Waits.Merging.{time_line}
use Rattle.apply_planning.specs.PlanningWork.{planning_work}
use Rattle.apply_command.specs.Lines.{prepared_head}
use Rattle.apply_command.proofs.HeadChunks.{count, event_text_at, plan_text_at}
use Rattle.apply_command.proofs.command_lines.CommandLines.line_at.Goals as goal

pub returns-then-number-event_count-clause-text : goal.returns-then-number-event_count-clause-text
returns-then-number-event_count-clause-text c =
    let s = c.args.self.now in let p = s.prepared.now in
    let events = time_line (planning_work p.told.items) p.lanes in
    let number = c.args.number - 1 in
    c.in_ok-event_at.ensures.text
    ∙ event_text_at (prepared_head p s.start) events p.plan_lines.items number c.args.number (omega (arith, c.if-number-eq0.false)) (omega (arith, c.if-number-event_count.true, p.counted))

pub returns-clause-text : goal.returns-clause-text
returns-clause-text c =
    let s = c.args.self.now in let p = s.prepared.now in
    let events = time_line (planning_work p.told.items) p.lanes in
    let plan = p.plan_lines.items in
    let number = c.args.number - 1 - p.event_count in
    let all = count (prepared_head p s.start) events plan in
    let few : number < length plan = omega (arith, c.requires, all, p.counted, c.if-number-eq0.false, c.if-number-event_count.false) in
    plan_text_at (prepared_head p s.start) events plan number c.args.number c.index.result.now
    (omega (arith, p.counted, c.if-number-eq0.false, c.if-number-event_count.false)) few c.index.ensures
