use Rattle.std.proofs.Common.{◌≡◌, ◌<◌, ◌-◌, ◌∙◌, Bool, None, Option, Some, ap, arith, cond, eqb, false, ne_eqb, sym}
use Rattle.stream_record_waits.specs.declared.lane_time.LaneTime.{LaneTime}
use Rattle.stream_record_waits.specs.Basis.{basis_of, course_of}
use Rattle.stream_record_waits.proofs.Marks.{none_from, one_back}
use Rattle.stream_record_waits.proofs.course.LaneCourse.advanced.Goals as goal

pub returns-in-None-clause-done : goal.returns-in-None-clause-done
returns-in-None-clause-done c =
    let basis = basis_of c.args.basis.now in
    let course = course_of c.args.self.now in
    let left = c.loop-mark.mark.left in
    let some : 0 < left = c.loop-mark-test.true in
    let more : eqb left 0 ≡ false = ne_eqb left 0 (λ is. omega (arith, some, is)) in
    none_from basis course (left - 1) c.args.after.now
    (one_back basis course c.args.after.now left c.loop-mark.mark.at 0 some c.loop-mark.invariant.0 c.loop-mark.invariant.1 ∙ sym c.in-None.ensures)
    ∙ sym (ap (λ (b : Bool). let chosen : Option LaneTime = cond b (Some c.loop-mark.mark.at) None in chosen) more)
