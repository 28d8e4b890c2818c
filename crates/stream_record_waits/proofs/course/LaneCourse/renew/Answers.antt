use Rattle.stream_record_waits.specs.Basis.{basis_of, course_of}
use Rattle.stream_record_waits.proofs.Renewed.{one_renewed}
use Rattle.stream_record_waits.proofs.course.LaneCourse.renew.Goals as goal
use Rattle.std.proofs.Common.{◌∙◌}

pub returns-clause-turns : goal.returns-clause-turns
returns-clause-turns c =
    one_renewed (basis_of c.args.basis.now) (course_of c.args.self.now) c.args.turns.now c.set.new.self c.args.step c.requires.each c.set.ensures.tree c.set.ensures.count
    (c.set.ensures.turn ∙ c.turn_of-turn.ensures.turn) c.set.ensures.others
