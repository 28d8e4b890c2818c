use Rattle.std.proofs.Common.{sym, ⊎_elim}
use Rattle.apply_events.specs.Runner.{left_of}
use Rattle.apply_events.proofs.Stages.{halting_begins_none, noting_begins_none, over_begins_none, running_begins_none}
use Rattle.apply_events.proofs.runner.Runner.begins.Goals as goal

-- at each of the other stages
pub returns-in-Running : goal.returns-in-Running
returns-in-Running g c =
    sym (⊎_elim
    (λ running. running_begins_none c.args.self.now.worker (left_of c.args.self.now) c.args.self.now.at running.0 c.args.self.now.stage running.1)
    (λ others. ⊎_elim
    (λ noting. noting_begins_none c.args.self.now.worker (left_of c.args.self.now) c.args.self.now.at c.args.self.now.stage noting)
    (λ ends. ⊎_elim
    (λ halting. halting_begins_none c.args.self.now.worker (left_of c.args.self.now) c.args.self.now.at halting.0 c.args.self.now.stage halting.1)
    (λ over. over_begins_none c.args.self.now.worker (left_of c.args.self.now) c.args.self.now.at c.args.self.now.stage over) ends) others)
    c.in-Running.is)
