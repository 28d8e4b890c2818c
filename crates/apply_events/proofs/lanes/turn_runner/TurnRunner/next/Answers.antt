use Rattle.std.proofs.Common.{sym, ◌∙◌}
use Rattle.apply_events.specs.Runner as runner
use Rattle.apply_events.proofs.TurnLeft.{gives_on, stopped}
use Rattle.apply_events.proofs.lanes.turn_runner.TurnRunner.next.Goals as goal

pub returns-then-is_over : goal.returns-then-is_over
returns-then-is_over g c =
    let none = stopped c.args.self.now.end (runner.to_come c.args.self.now.change_runner) c.args.self.now.stops (sym c.is_over.ensures ∙ c.if-is_over.true) in
    (none, none)

pub returns : goal.returns
returns g c =
    (gives_on c.args.self.now.end (runner.to_come c.args.self.now.change_runner) c.next.result (runner.to_come c.next.new.self) c.args.self.now.stops
    (sym c.is_over.ensures ∙ c.if-is_over.false) c.next.ensures.next).0
