use Rattle.apply_events.specs.Runner.{course_of, to_come}
use Rattle.apply_events.proofs.Ended.{stands, stands_whole}
use Rattle.apply_events.proofs.runner.Runner.ended_at.Goals as goal

pub returns-clause-ended : goal.returns-clause-ended
returns-clause-ended g c = stands (course_of c.args.self.now) c.args.self.now.step c.args.self.now.at c.args.self.now.stage c.args.self.now.on_course c.args.self.now.on_time

pub returns-clause-whole : goal.returns-clause-whole
returns-clause-whole g c =
    stands_whole (course_of c.args.self.now) c.args.self.now.at (to_come c.args.self.now)
    (stands (course_of c.args.self.now) c.args.self.now.step c.args.self.now.at c.args.self.now.stage c.args.self.now.on_course c.args.self.now.on_time)
